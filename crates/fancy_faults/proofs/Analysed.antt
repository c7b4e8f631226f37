-- What the analysis says of look-behinds, and the marks of a tree's nodes.
use Rattle.std.proofs.Common.{◌≡◌, ℕ, ◌<◌, ◌+◌, ◌&&◌, ◌||◌, Bool, true, false, not, List, [], ◌∷◌, ◌++◌, length, map, drop, get_or, refl, sym, ap, ap₂, ◌∙◌, subst, arith, true≢false}
use Rattle.std.specs.List.{list_all}
use Rattle.std.proofs.lemmas.List.{length-map, map-append}
use Rattle.fancy_meaning.specs.Tree as plain
use Rattle.fancy_meaning.specs.Tree.{Tree, Trees, none, more, trees, parts, children, Within}
use Rattle.fancy_meaning.specs.Nodes.{nodes, nodes_of_each}
use Rattle.fancy_meaning.specs.Options.{Analysis}
use Rattle.fancy_meaning.specs.Sizes.{size}
use Rattle.fancy_meaning.specs.Sizes as plain_sizes
use Rattle.fancy_meaning.specs.CompileRefusals.{branches_of}
use Rattle.fancy_expr.specs.declared.expr.Absent.{Absent}
use Rattle.fancy_expr.specs.declared.expr.Absent.TheVariants as code_absent
use Rattle.fancy_expr.specs.declared.expr.Expr.{Expr}
use Rattle.fancy_expr.specs.declared.expr.Expr.TheVariants as code
use Rattle.fancy_expr.specs.Each.{Each}
use Rattle.fancy_expr.proofs.NodeParts.{nodes-parts}
use Rattle.fancy_info.specs.declared.info.Info.{Info}
use Rattle.fancy_info.specs.declared.info.Info.TheViews.{out-Info}
use Rattle.fancy_info.specs.Infos.{nth, info_tree, info_children, info_facts, info_size, info_within, node_over, absent_over, IsFound, IsAnalysed}
use Rattle.fancy_info.specs.NodeCounts.{node_count, node_counts}
use Rattle.fancy_info.proofs.Children.{each_at, node_count-below, child_count, rest_at}
use Rattle.fancy_info.proofs.OverParts.{over-parts}
use Rattle.fancy_info.proofs.Unfolded.{tree_out, each_here, each_below}
use Rattle.fancy_faults.specs.Blame.{is_variable_look_behind}
use Rattle.fancy_faults.specs.Known.{IsKnown, is_alt, is_look_behind, has_fixed_length}

-- ---- what is known

pub known_child : (a : Analysis) (i : Info) → IsAnalysed a i → IsKnown a i
known_child a i h = record {
  node = (each_here (IsFound a) i h).node;
  children = each_below (IsFound a) i h;
}

size_known : (a : Analysis) (i : Info) → IsKnown a i → info_size i ≡ size a.tree (info_tree i)
size_known a i k = k.node.size ∙ ap (size a.tree) (sym (tree_out i))

-- a child by its place among the children
module _ (i : Info) (l : List Info) (same : l ≡ info_children i) (n : ℕ) (x : Info) (lt : n < length l) (is : x ≡ get_or l n x) where
  pub part_smaller : node_count x < node_count i
  part_smaller = omega (arith, node_count-below i, ap node_counts same, child_count l n x lt is)

  pub part_known : (a : Analysis) → IsKnown a i → IsKnown a x
  part_known a k = known_child a x (each_at (IsAnalysed a) l n x (subst (Each (IsAnalysed a)) (sym same) k.children) lt is)

-- ---- look-behinds

module _ (n : ℕ) (w : Within) (es : Trees) where
  alt_over : (e : Expr) → is_alt e ≡ true → node_over e n w es ≡ plain.Alt es
  alt_over (code.Alt' shape row) h = refl
  alt_over e h = absurd (true≢false (sym h))

  absent_alone : (a : Absent) → branches_of (absent_over a es) ≡ more (absent_over a es) none
  absent_alone (code_absent.Repeater' b e) = refl
  absent_alone (code_absent.Expression' b a c e) = refl
  absent_alone (code_absent.Stopper' b e) = refl
  absent_alone code_absent.Clear = refl

  other_branches : (e : Expr) → is_alt e ≡ false → branches_of (node_over e n w es) ≡ more (node_over e n w es) none
  other_branches (code.Alt' shape row) h = absurd (true≢false h)
  other_branches (code.Absent a) h = absent_alone a
  other_branches e h = refl

  absent_no_look : (whole : Tree) (a : Absent) → is_variable_look_behind whole (absent_over a es) ≡ false
  absent_no_look whole (code_absent.Repeater' b e) = refl
  absent_no_look whole (code_absent.Expression' b a c e) = refl
  absent_no_look whole (code_absent.Stopper' b e) = refl
  absent_no_look whole code_absent.Clear = refl

  variable_over : (whole : Tree) (e : Expr) → is_variable_look_behind whole (node_over e n w es) ≡
      (is_look_behind e && not ((size whole (nth es 0)).is_const || list_all (λ b. (size whole b).is_const) (children (branches_of (nth es 0)))))
  variable_over whole (code.Absent a) = absent_no_look whole a
  variable_over whole e = refl

children_trees : (es : List Tree) → children (trees es) ≡ es
children_trees [] = refl
children_trees (e ∷ es) = ap (λ l. e ∷ l) (children_trees es)

or_self : (b : Bool) → (b || (b && true)) ≡ b
or_self true = refl
or_self false = refl

or_false : (b : Bool) → (b || false) ≡ b
or_false true = refl
or_false false = refl

module _ (a : Analysis) where
  const_sizes : (l : List Info) → Each (IsAnalysed a) l → list_all (λ b. (info_size b).is_const) l ≡ list_all (λ e. (size a.tree e).is_const) (map info_tree l)
  const_sizes [] h = refl
  const_sizes (i ∷ l) h = ap₂ (λ x y. x && y) (ap (λ (z : plain_sizes.Size). z.is_const) (size_known a i (known_child a i h.0))) (const_sizes l h.1)

  -- its own size is constant, or that of each branch
  abbrev has_fixed : Tree → Bool
  has_fixed e = (size a.tree e).is_const || list_all (λ b. (size a.tree b).is_const) (children (branches_of e))

  module _ (i : Info) (k : IsKnown a i) where
    fixed_by : (b : Bool) → is_alt (info_facts i).expr ≡ b →
        ((size a.tree (info_tree i)).is_const || (b && list_all (λ p. (info_size p).is_const) (info_children i))) ≡ has_fixed (info_tree i)
    fixed_by true is =
        let own = (size a.tree (info_tree i)).is_const in
        let ts = map info_tree (info_children i) in
        let tree = tree_out i ∙ alt_over (out-Info i).start_group (info_within i) (trees ts) (out-Info i).expr.now is in
        let branches = ap (λ t. children (branches_of t)) tree ∙ children_trees ts in
        ap (λ x. own || x) (const_sizes (info_children i) k.children ∙ ap (list_all (λ b. (size a.tree b).is_const)) (sym branches))
    fixed_by false is =
        let own = (size a.tree (info_tree i)).is_const in
        let over = other_branches (out-Info i).start_group (info_within i) (trees (map info_tree (info_children i))) (out-Info i).expr.now is in
        let branches = ap branches_of (tree_out i) ∙ over ∙ ap (λ t. more t none) (sym (tree_out i)) in
        or_false own ∙ sym (ap (λ bs. own || list_all (λ b. (size a.tree b).is_const) (children bs)) branches ∙ or_self own)

    -- a body of a fixed length
    pub fixed : has_fixed_length i ≡ has_fixed (info_tree i)
    fixed =
        ap (λ (z : plain_sizes.Size). z.is_const || (is_alt (info_facts i).expr && list_all (λ p. (info_size p).is_const) (info_children i))) (size_known a i k)
        ∙ fixed_by (is_alt (info_facts i).expr) refl

first_tree : (l : List Info) (x : Info) → 0 < length l → x ≡ get_or l 0 x → nth (trees (map info_tree l)) 0 ≡ info_tree x
first_tree [] x lt is = absurd (omega (arith, lt))
first_tree (y ∷ l) x lt is = ap info_tree (sym is)

module _ (i : Info) where
  variable_here : (whole : Tree) → is_variable_look_behind whole (info_tree i) ≡
      (is_look_behind (out-Info i).expr.now && not ((size whole (nth (trees (map info_tree (info_children i))) 0)).is_const
      || list_all (λ b. (size whole b).is_const) (children (branches_of (nth (trees (map info_tree (info_children i))) 0)))))
  variable_here whole =
      ap (is_variable_look_behind whole) (tree_out i)
      ∙ variable_over (out-Info i).start_group (info_within i) (trees (map info_tree (info_children i))) whole (out-Info i).expr.now

  -- a look-behind, by its body
  pub variable_by_body : (a : Analysis) (l : List Info) (x : Info) → l ≡ info_children i → 0 < length l → x ≡ get_or l 0 x → IsKnown a i →
      (is_look_behind (out-Info i).expr.now && not (has_fixed_length x)) ≡ is_variable_look_behind a.tree (info_tree i)
  variable_by_body a l x same lt is k =
      let own = is_look_behind (out-Info i).expr.now in
      let first = ap (λ m. nth (trees (map info_tree m)) 0) (sym same) ∙ first_tree l x lt is in
      ap (λ b. own && not b) (fixed a x (part_known i l same 0 x lt is a k)) ∙ ap (λ t. own && not (has_fixed a t)) (sym first)
      ∙ sym (variable_here a.tree)

-- ---- the marks of nodes

module _ (f : Tree → Bool) where
  abbrev pub marks : Info → List Bool
  marks i = map f (nodes (info_tree i))

  abbrev pub each_marks : List Info → List Bool
  each_marks [] = []
  each_marks (i ∷ l) = marks i ++ each_marks l

  each_nodes : (l : List Info) → map f (nodes_of_each (trees (map info_tree l))) ≡ each_marks l
  each_nodes [] = refl
  each_nodes (i ∷ l) =
      map-append f (nodes (info_tree i)) (nodes_of_each (trees (map info_tree l))) ∙ ap (λ m. marks i ++ m) (each_nodes l)

  -- the mark of a node, and those below it
  pub marks_below : (a : Analysis) (i : Info) → IsKnown a i → marks i ≡ f (info_tree i) ∷ each_marks (info_children i)
  marks_below a i k =
      let ts = map info_tree (info_children i) in
      let parts_are = over-parts (out-Info i).expr.now (out-Info i).start_group (info_within i) ts (length-map (info_children i) info_tree ∙ k.node.arity) in
      ap (map f) (nodes-parts (info_tree i) ∙ ap (λ t. info_tree i ∷ nodes_of_each t) (ap parts (tree_out i) ∙ parts_are))
      ∙ ap (λ m. f (info_tree i) ∷ m) (each_nodes (info_children i))

  pub each_rest : (l : List Info) (n : ℕ) (x : Info) → n < length l → x ≡ get_or l n x → each_marks (drop n l) ≡ marks x ++ each_marks (drop (n + 1) l)
  each_rest l n x lt is = ap each_marks (rest_at l n x lt is)
