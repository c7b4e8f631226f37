-- The greatest group that ways of nodes can set, node by node.
use Rattle.std.proofs.Common.{◌≡◌, ℕ, suc, ◌+◌, ◌*◌, ◌<◌, max, Bool, true, false, ◌&&◌, if◌then◌else◌, nat_lt, nat_le, List, [], ◌∷◌, ◌++◌, length, map, take, flat_map, get_or, Box, Global, refl, sym, ap, ap₂, ◌∙◌, arith, append-nil}
use Rattle.std.proofs.lemmas.List.{map-append, length-map}
use Rattle.std.specs.List.{list_all}
use Rattle.std.specs.Ordering.{ord_max, nat_cmp}
use Rattle.std.proofs.lemmas.Bool.Decides.{nat_tests}
use Rattle.fancy_meaning.specs.Tree as plain
use Rattle.fancy_meaning.specs.Tree.{Tree, Trees, none, more, trees, children, parts}
use Rattle.fancy_meaning.specs.Fits.{is_entered, settable_groups, settable_in_each}
use Rattle.fancy_meaning.specs.Nodes.{group_count, groups}
use Rattle.fancy_expr.specs.declared.expr.Absent.{Absent}
use Rattle.fancy_expr.specs.declared.expr.Absent.TheVariants as code_absent
use Rattle.fancy_expr.specs.declared.expr.Absent.TheViews as view
use Rattle.fancy_expr.specs.declared.expr.Expr.{Expr}
use Rattle.fancy_expr.specs.declared.expr.Expr.TheVariants as code
use Rattle.fancy_expr.specs.Exprs.{below}
use Rattle.fancy_expr.specs.Views.{tree_of}
use Rattle.fancy_expr.proofs.Walks.{taken}
use Rattle.fancy_info.specs.declared.info.Info.{Info}
use Rattle.fancy_info.specs.declared.info.Info.TheViews.{out-Info}
use Rattle.fancy_info.specs.Infos.{info_tree, info_expr, info_children, info_within, absent_over, node_over, IsFound}
use Rattle.fancy_info.proofs.OverParts.{over-parts}
use Rattle.fancy_info.proofs.Unfolded.{tree_out, each_here}
use Rattle.fancy_fragments.specs.Nodes.{start_of, fits_over, IsAnalysedNode}
use Rattle.fancy_fragments.specs.Settable.{above, settable_above, is_way_in, own_above}

-- ---- lists

above-append : (gs hs : List ℕ) → above (gs ++ hs) ≡ max (above gs) (above hs)
above-append [] hs = omega arith
above-append (g ∷ gs) hs = omega (arith, above-append gs hs)

pub settable-one : (e : Tree) → settable_above (e ∷ []) ≡ above (settable_groups e)
settable-one e = ap above (append-nil (settable_groups e))

flat-append : (xs ys : List Tree) → settable_above (xs ++ ys) ≡ max (settable_above xs) (settable_above ys)
flat-append [] ys = omega arith
flat-append (x ∷ xs) ys =
    omega (
      arith,
      above-append (settable_groups x) (flat_map settable_groups (xs ++ ys)),
      above-append (settable_groups x) (flat_map settable_groups xs),
      flat-append xs ys,
    )

pub greater : (a b : ℕ) → ord_max nat_cmp a b ≡ max a b
greater a b = grind (arith, nat_tests)

-- one more node
pub one_more : (is : List Info) (k : ℕ) (i : Info) (old : ℕ) → k < length is → i ≡ get_or is k i → old ≡ settable_above (map info_tree (take k is)) →
    max old (settable_above (info_tree i ∷ [])) ≡ settable_above (map info_tree (take (k + 1) is))
one_more is k i old lt at before =
    ap (λ n. max n (settable_above (info_tree i ∷ []))) before
    ∙ sym (flat-append (map info_tree (take k is)) (info_tree i ∷ []))
    ∙ ap settable_above (sym (map-append info_tree (take k is) (i ∷ [])))
    ∙ ap (λ l. settable_above (map info_tree l)) (sym (taken is k i lt at))

-- ---- a node

in_each : (es : Trees) → settable_in_each es ≡ flat_map settable_groups (children es)
in_each none = refl
in_each (more e es) = ap (λ l. settable_groups e ++ l) (in_each es)

no_own : (es : Trees) (gs : List ℕ) → gs ≡ flat_map settable_groups (children es) → above gs ≡ max (settable_above (children es)) 0
no_own es gs is = omega (arith, ap above is)

when_in : (b : Bool) (e : Tree) → above (if b then settable_groups e else []) ≡ (if b then max (settable_above (e ∷ [])) 0 else 0)
when_in true e = omega (arith, settable-one e)
when_in false e = refl

pub above_node : (t : Tree) → above (settable_groups t) ≡ (if is_way_in t then max (settable_above (children (parts t))) (own_above t) else 0)
above_node (plain.Concat es) = no_own es _ (in_each es)
above_node (plain.Alt es) = no_own es _ (in_each es)
above_node (plain.Group g e) = omega (arith, settable-one e)
above_node (plain.LookAround plain.LookAhead e) = omega (arith, settable-one e)
above_node (plain.LookAround plain.LookAheadNeg e) = refl
above_node (plain.LookAround plain.LookBehind e) = omega (arith, settable-one e)
above_node (plain.LookAround plain.LookBehindNeg e) = refl
above_node (plain.Repeat lo hi greedy e) = when_in (is_entered lo hi) e
above_node (plain.AtomicGroup e) = omega (arith, settable-one e)
above_node (plain.Conditional c t f) =
    no_own (more c (more t (more f none))) _ (ap (λ l. settable_groups c ++ (settable_groups t ++ l)) (sym (append-nil (settable_groups f))))
above_node e = refl

absent_way : (x : Absent) (es : Trees) → is_way_in (absent_over x es) ≡ is_way_in (tree_of (code.Absent x))
absent_way (code_absent.Repeater' b e) es = refl
absent_way (code_absent.Expression' b a c e) es = refl
absent_way (code_absent.Stopper' b e) es = refl
absent_way code_absent.Clear es = refl

way_over : (e : Expr) (n : ℕ) (w : plain.Within) (es : Trees) → is_way_in (node_over e n w es) ≡ is_way_in (tree_of e)
way_over (code.Absent x) n w es = absent_way x es
way_over e n w es = refl

pub children_listed : (es : List Tree) → children (trees es) ≡ es
children_listed [] = refl
children_listed (e ∷ es) = ap (λ l. e ∷ l) (children_listed es)

one_group : (body : Box Expr Global) (n : ℕ) (w : plain.Within) (es : Trees) → 0 < group_count (node_over (view.Group body) n w es)
unfolding group_count groups
one_group body n w es = omega arith

module _ (i : Info) (h : IsAnalysedNode i) where
  pub way_in_tree : is_way_in (info_tree i) ≡ is_way_in (tree_of (info_expr i))
  way_in_tree = ap is_way_in (tree_out i) ∙ way_over (info_expr i) (start_of i) (info_within i) _

  parts_of_tree : children (parts (info_tree i)) ≡ map info_tree (info_children i)
  parts_of_tree =
      let found = (each_here (IsFound h.0) i h.1).node in
      ap (λ t. children (parts t)) (tree_out i)
      ∙ ap children
      (over-parts (info_expr i) (start_of i) (info_within i) (map info_tree (info_children i)) (length-map (info_children i) info_tree ∙ found.arity))
      ∙ children_listed (map info_tree (info_children i))

  pub node_in : is_way_in (tree_of (info_expr i)) ≡ true → (kids own : ℕ) → kids ≡ settable_above (map info_tree (info_children i)) →
      own ≡ own_above (info_tree i) → max kids own ≡ settable_above (info_tree i ∷ [])
  node_in on kids own below mine =
      ap₂ max (below ∙ ap settable_above (sym parts_of_tree)) mine
      ∙ ap (λ b. if b then max (settable_above (children (parts (info_tree i)))) (own_above (info_tree i)) else 0) (sym (way_in_tree ∙ on))
      ∙ sym (above_node (info_tree i))
      ∙ sym (settable-one (info_tree i))

  pub node_out : is_way_in (tree_of (info_expr i)) ≡ false → 0 ≡ settable_above (info_tree i ∷ [])
  node_out off =
      ap (λ b. if b then max (settable_above (children (parts (info_tree i)))) (own_above (info_tree i)) else 0) (sym (way_in_tree ∙ off))
      ∙ sym (above_node (info_tree i))
      ∙ sym (settable-one (info_tree i))

  -- a group has a number
  pub group_ends : (body : Box Expr Global) → info_expr i ≡ view.Group body → start_of i < (out-Info i).end_group
  group_ends body is =
      let kids = trees (map info_tree (info_children i)) in
      omega (
        arith,
        (each_here (IsFound h.0) i h.1).node.end_group,
        ap (λ e. group_count (node_over e (start_of i) (info_within i) kids)) is,
        one_group body (start_of i) (info_within i) kids,
      )

-- ---- slots

pair_below : (g n slots : ℕ) → (nat_lt (2 * g + 1) slots && nat_le (2 * n) slots) ≡ nat_le (2 * max (suc g) n) slots
pair_below g n slots = grind arith

none_below : (slots : ℕ) → true ≡ nat_le (2 * 0) slots
none_below slots = grind arith

pairs_below : (slots : ℕ) (gs : List ℕ) → list_all (λ g. nat_lt (2 * g + 1) slots) gs ≡ nat_le (2 * above gs) slots
pairs_below slots [] = none_below slots
pairs_below slots (g ∷ gs) = ap (λ b. nat_lt (2 * g + 1) slots && b) (pairs_below slots gs) ∙ pair_below g (above gs) slots

pub fits_below : (slots : ℕ) (es : List Tree) → fits_over slots es ≡ nat_le (2 * settable_above es) slots
fits_below slots es = pairs_below slots (flat_map settable_groups es)
