-- The tree of an analysed node is that of its expression, numbered.
use Rattle.std.proofs.Common.{◌≡◌, ℕ, zero, suc, ◌+◌, ◌≤◌, List, [], ◌∷◌, map, refl, sym, ap, ap₂, ◌∙◌, arith}
use Rattle.fancy_meaning.specs.Tree as plain
use Rattle.fancy_meaning.specs.Tree.{Tree, Trees, none, more, trees, children, parts}
use Rattle.fancy_meaning.specs.Nodes.{group_count}
use Rattle.fancy_meaning.specs.Numbering.{numbered_within, each_numbered}
use Rattle.fancy_meaning.specs.Options.{Analysis}
use Rattle.fancy_expr.specs.declared.expr.Absent.{Absent}
use Rattle.fancy_expr.specs.declared.expr.Absent.TheVariants as code_absent
use Rattle.fancy_expr.specs.declared.expr.Expr.{Expr}
use Rattle.fancy_expr.specs.declared.expr.Expr.TheVariants as code
use Rattle.fancy_expr.specs.Each.{Each}
use Rattle.fancy_expr.specs.Views.{tree_of, absent_of}
use Rattle.fancy_expr.specs.Walk.{start_inside, within_inside}
use Rattle.fancy_expr.proofs.Exprs.{parts-below}
use Rattle.fancy_expr.proofs.Numbered.{count-numbered}
use Rattle.fancy_info.specs.declared.info.Info.{Info}
use Rattle.fancy_info.specs.declared.info.Info.TheViews.{out-Info}
use Rattle.fancy_info.specs.Infos.{info_tree, info_expr, info_children, info_within, absent_over, node_over, AreInTurn, IsFound, IsAnalysed}
use Rattle.fancy_info.proofs.Unfolded.{tree_out, each_here, each_below}
use Rattle.fancy_fragments.specs.Nodes.{plain_tree, start_of}
use Rattle.fancy_info.specs.NodeCounts.{node_count, node_counts}
use Rattle.fancy_info.proofs.Children.{node_count-below}

-- ---- one node over its numbered children

absent_numbered : (w : plain.Within) (n : ℕ) (a : Absent) → absent_over a (each_numbered w n (parts (absent_of a))) ≡ numbered_within w n (absent_of a)
absent_numbered w n (code_absent.Repeater' b e) = refl
absent_numbered w n (code_absent.Expression' b a c e) = refl
absent_numbered w n (code_absent.Stopper' b e) = refl
absent_numbered w n code_absent.Clear = refl

over_numbered : (w : plain.Within) (n : ℕ) (e : Expr) →
    node_over e n w (each_numbered (within_inside e w) (start_inside e n) (parts (tree_of e))) ≡ numbered_within w n (tree_of e)
over_numbered w n (code.Absent a) = absent_numbered w n a
over_numbered w n e = refl

-- ---- all nodes

abbrev IsNumbered : Info → Type 0
IsNumbered i = info_tree i ≡ numbered_within (info_within i) (start_of i) (plain_tree i)

map_both : (is : List Info) → map plain_tree is ≡ map tree_of (map info_expr is)
map_both [] = refl
map_both (i ∷ is) = ap (λ l. plain_tree i ∷ l) (map_both is)

module _ (a : Analysis) where
  -- the next node begins where the groups of this one end
  ends_at : (i : Info) → IsAnalysed a i → IsNumbered i → (out-Info i).end_group ≡ start_of i + group_count (plain_tree i)
  ends_at i h is =
      (each_here (IsFound a) i h).node.end_group
      ∙ ap (λ t. start_of i + group_count t) (sym (tree_out i) ∙ is)
      ∙ ap (λ n. start_of i + n) (count-numbered (info_within i) (start_of i) (plain_tree i))

  neighbours_numbered : (w : plain.Within) (n : ℕ) (is : List Info) → Each (IsAnalysed a) is → Each IsNumbered is → AreInTurn w n is →
      trees (map info_tree is) ≡ each_numbered w n (trees (map plain_tree is))
  neighbours_numbered w n [] found each turn = refl
  neighbours_numbered w n (i ∷ is) found each (within, starts, rest) =
      let ends = ends_at i found.0 each.0 ∙ ap (λ k. k + group_count (plain_tree i)) starts in
      ap₂ more
      (each.0 ∙ ap₂ (λ v k. numbered_within v k (plain_tree i)) within starts)
      (neighbours_numbered w (out-Info i).end_group is found.1 each.1 rest
      ∙ ap (λ k. each_numbered w k (trees (map plain_tree is))) ends)

  node_numbered : (i : Info) → IsAnalysed a i → Each IsNumbered (info_children i) → IsNumbered i
  node_numbered i h each =
      let node = (each_here (IsFound a) i h).node in
      let e = info_expr i in
      let v = within_inside e (info_within i) in
      let k = start_inside e (start_of i) in
      let below_numbered = neighbours_numbered v k (info_children i) (each_below (IsFound a) i h) each node.in_turn in
      let own = map_both (info_children i) ∙ ap (map tree_of) node.exprs in
      tree_out i
      ∙ ap (node_over e (start_of i) (info_within i)) (below_numbered
      ∙ ap (λ l. each_numbered v k (trees l)) own
      ∙ ap (each_numbered v k) (sym (parts-below e)))
      ∙ over_numbered (info_within i) (start_of i) e

  each_by : (count : ℕ) → ((i : Info) → node_count i ≤ count → IsAnalysed a i → IsNumbered i) → (is : List Info) → node_counts is ≤ count →
      Each (IsAnalysed a) is → Each IsNumbered is
  each_by count by [] le h = tt
  each_by count by (i ∷ is) le h = (by i (omega (arith, le)) h.0, each_by count by is (omega (arith, le)) h.1)

  numbered_by : (count : ℕ) (i : Info) → node_count i ≤ count → IsAnalysed a i → IsNumbered i
  numbered_by zero i le h = absurd (omega (arith, le, node_count-below i))
  numbered_by (suc count) i le h =
      node_numbered i h
      (each_by count (numbered_by count) (info_children i) (omega (arith, le, node_count-below i)) (each_below (IsFound a) i h))

  pub is_numbered : (i : Info) → IsAnalysed a i → IsNumbered i
  is_numbered i h = numbered_by (node_count i) i (omega arith) h

  pub each_is_numbered : (is : List Info) → Each (IsAnalysed a) is → Each IsNumbered is
  each_is_numbered [] h = tt
  each_is_numbered (i ∷ is) h = (is_numbered i h.0, each_is_numbered is h.1)

  -- where the next node begins
  pub ends : (i : Info) → IsAnalysed a i → (out-Info i).end_group ≡ start_of i + group_count (plain_tree i)
  ends i h = ends_at i h (is_numbered i h)

  pub are_numbered : (w : plain.Within) (n : ℕ) (is : List Info) → Each (IsAnalysed a) is → AreInTurn w n is →
      trees (map info_tree is) ≡ each_numbered w n (trees (map plain_tree is))
  are_numbered w n is found turn = neighbours_numbered w n is found (each_is_numbered is found) turn
