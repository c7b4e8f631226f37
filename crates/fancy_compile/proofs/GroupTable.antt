-- The table of what calls may name: the groups, and the marks of those with which a match may begin.
use Rattle.std.proofs.Common.{◌≡◌, ℕ, zero, suc, ◌+◌, ◌<◌, ◌≤◌, ◌&&◌, ◌||◌, Bool, true, false, List, [], ◌∷◌, ◌++◌, length, map, drop, filter_map, get_or, Some, None, if◌then◌else◌, nat_eq, nat_lt, true≢false, refl, sym, ap, ap₂, ◌∙◌, arith, append-nil, eq-eqb, ne_eqb}
use Rattle.std.specs.Prelude.{slice_index_or}
use Rattle.std.specs.List.{list_any}
use Rattle.std.proofs.lemmas.List.Folds.{list_any-append}
use Rattle.std.proofs.lemmas.List.{map-append, drop_all}
use Rattle.std.proofs.lemmas.List.Elements.{filter_map-append}
use Rattle.fancy_meaning.specs.Tree.{Tree, Trees, trees, Within}
use Rattle.fancy_meaning.specs.Marks.{takes_nothing, marked_groups, group_number, marked_nodes, first_marked_nodes}
use Rattle.fancy_meaning.specs.Nodes.{nodes, nodes_of_each, as_group, group_count, groups, target, body_in}
use Rattle.fancy_meaning.specs.Options.{Analysis}
use Rattle.fancy_expr.specs.declared.expr.Absent.{Absent}
use Rattle.fancy_expr.specs.declared.expr.Absent.TheVariants as code_absent
use Rattle.fancy_expr.specs.declared.expr.Expr.{Expr}
use Rattle.fancy_expr.specs.declared.expr.Expr.TheVariants as code
use Rattle.fancy_info.specs.declared.info.Info.{Info}
use Rattle.fancy_info.specs.declared.info.Info.TheViews.{out-Info}
use Rattle.fancy_expr.specs.Exprs.{below}
use Rattle.fancy_info.specs.Infos.{node_over, absent_over, info_tree, info_within, info_children, info_facts, IsAnalysed}
use Rattle.fancy_info.proofs.Unfolded.{tree_out}
use Rattle.fancy_info.specs.NodeCounts.{node_count}
use Rattle.fancy_compile.specs.GroupTables.{AreNumbered, group_node}
use Rattle.fancy_compile.specs.AnalysedNodes.{IsKnown}
use Rattle.fancy_compile.specs.GroupTables.{is_group, is_concat, group_trees, own_trees, MarksAll}
use Rattle.fancy_info.proofs.Children.{rest_at, only_one, each_at, node_count-below, child_count}
use Rattle.fancy_compile.proofs.Known.{nodes_of_info, known_child}

-- ---- a node's groups

abbrev pub each_group_trees : List Info → List Tree
each_group_trees [] = []
each_group_trees (i ∷ is) = group_trees (info_tree i) ++ each_group_trees is

-- the groups among these nodes
abbrev groups_among : List Tree → List Tree
groups_among es = map group_node (filter_map as_group es)

among-append : (a b : List Tree) → groups_among (a ++ b) ≡ groups_among a ++ groups_among b
among-append a b = ap (map group_node) (filter_map-append as_group a b) ∙ map-append group_node (filter_map as_group a) (filter_map as_group b)

in_among : (e : Tree) → group_trees e ≡ groups_among (nodes e)
unfolding groups
in_among e = refl

each-among : (is : List Info) → groups_among (nodes_of_each (trees (map info_tree is))) ≡ each_group_trees is
each-among [] = refl
each-among (i ∷ is) =
    among-append (nodes (info_tree i)) (nodes_of_each (trees (map info_tree is)))
    ∙ ap (λ l. l ++ groups_among (nodes_of_each (trees (map info_tree is)))) (sym (in_among (info_tree i)))
    ∙ ap (λ l. group_trees (info_tree i) ++ l) (each-among is)

module _ (n : ℕ) (w : Within) where
  absent_alone : (a : Absent) (es : Trees) → groups_among (absent_over a es ∷ []) ≡ []
  absent_alone (code_absent.Repeater' b e) es = refl
  absent_alone (code_absent.Expression' b a c e) es = refl
  absent_alone (code_absent.Stopper' b e) es = refl
  absent_alone code_absent.Clear es = refl

  over_alone : (e : Expr) (es : Trees) → groups_among (node_over e n w es ∷ []) ≡ own_trees (is_group e) (node_over e n w es)
  over_alone (code.Group' b e) es = refl
  over_alone (code.Absent a) es = absent_alone a es
  over_alone e es = refl

own_groups : (i : Info) → groups_among (info_tree i ∷ []) ≡ own_trees (is_group (info_facts i).expr) (info_tree i)
own_groups i =
    let es = trees (map info_tree (info_children i)) in
    ap (λ t. groups_among (t ∷ [])) (tree_out i) ∙ over_alone (out-Info i).start_group (info_within i) (out-Info i).expr.now es
    ∙ ap (own_trees (is_group (info_facts i).expr)) (sym (tree_out i))

pub groups_of_info : (a : Analysis) (i : Info) → IsKnown a i → group_trees (info_tree i) ≡ own_trees (is_group (info_facts i).expr)
    (info_tree i) ++ each_group_trees (info_children i)
groups_of_info a i k =
    in_among (info_tree i) ∙ ap groups_among (nodes_of_info a i k)
    ∙ among-append (info_tree i ∷ []) (nodes_of_each (trees (map info_tree (info_children i))))
    ∙ ap₂ (λ x y. x ++ y) (own_groups i) (each-among (info_children i))

count_is : (e : Tree) → group_count e ≡ length (groups e)
unfolding group_count
count_is e = refl

none_of : (gs : List (ℕ × Tree)) → length gs ≡ 0 → map group_node gs ≡ []
none_of [] none = refl
none_of (g ∷ gs) none = absurd (omega (arith, none))

-- a node that ends at the number at which it begins has none
pub no_groups : (a : Analysis) (i : Info) → IsKnown a i → (info_facts i).start_group ≡ (info_facts i).end_group → group_trees (info_tree i) ≡ []
no_groups a i k same =
    none_of (groups (info_tree i)) (omega (arith, same, k.node.end_group, count_is (info_tree i), ap group_count (tree_out i)))

pub each_rest : (l : List Info) (i : ℕ) (x : Info) → i < length l → x ≡ get_or l i x
    → each_group_trees (drop i l) ≡ group_trees (info_tree x) ++ each_group_trees (drop (i + 1) l)
each_rest l i x lt at = ap each_group_trees (rest_at l i x lt at)

pub each_done : (l : List Info) (i : ℕ) → length l ≤ i → each_group_trees (drop i l) ≡ []
each_done l i end = ap each_group_trees (drop_all i l end)

-- ---- marks

or_and : (o l g h : Bool) → ((o || (l && g)) || (l && h)) ≡ (o || (l && (g || h)))
or_and true l g h = refl
or_and false true true h = refl
or_and false true false h = refl
or_and false false g h = refl

or_none : (o l : Bool) → o ≡ (o || (l && false))
or_none true l = refl
or_none false true = refl
or_none false false = refl

module _ (first : ℕ) where
  pub marks_then : (gs hs : List ℕ) (old mid new : List Bool) → MarksAll first gs old mid → MarksAll first hs mid new → MarksAll first (gs ++ hs) old new
  marks_then gs hs old mid new h g = record {
    as_many = g.as_many ∙ h.as_many;
    marks = λ k.
        g.marks k
        ∙ ap₂ (λ x n. x || (nat_lt k n && list_any (nat_eq (first + k)) hs)) (h.marks k) h.as_many
        ∙ or_and (slice_index_or old k false) (nat_lt k (length old)) (list_any (nat_eq (first + k)) gs) (list_any (nat_eq (first + k)) hs)
        ∙ ap (λ b. slice_index_or old k false || (nat_lt k (length old) && b)) (sym (list_any-append (nat_eq (first + k)) gs hs));
  }

  pub marks_none : (old : List Bool) → MarksAll first [] old old
  marks_none old = record { as_many = refl; marks = λ k. or_none (slice_index_or old k false) (nat_lt k (length old)) }

-- ---- what a match begins with

module _ (a : Analysis) where
  absent_starts : (x : Absent) (es : Trees) → marked_groups a.tree (absent_over x es) ≡ []
  absent_starts (code_absent.Repeater' b e) es = refl
  absent_starts (code_absent.Expression' b x c e) es = refl
  absent_starts (code_absent.Stopper' b e) es = refl
  absent_starts code_absent.Clear es = refl

  other_starts : (e : Expr) (n : ℕ) (w : Within) (es : Trees) → is_group e ≡ false → is_concat e ≡ false → marked_groups a.tree (node_over e n w es) ≡ []
  other_starts (code.Group' b e) n w es g c = absurd (true≢false g)
  other_starts (code.Concat' shape row) n w es g c = absurd (true≢false c)
  other_starts (code.Absent x) n w es g c = absent_starts x es
  other_starts e n w es g c = refl

  concat_starts : (e : Expr) (n : ℕ) (w : Within) (es : Trees) → is_concat e ≡ true
      → marked_groups a.tree (node_over e n w es) ≡ filter_map group_number (first_marked_nodes a.tree es)
  concat_starts (code.Concat' shape row) n w es c = refl
  concat_starts e n w es c = absurd (true≢false (sym c))

  group_starts_over : (e : Expr) (n : ℕ) (w : Within) (t : Tree) → is_group e ≡ true
      → marked_groups a.tree (node_over e n w (trees (t ∷ []))) ≡ n ∷ marked_groups a.tree t
  group_starts_over (code.Group' b e) n w t g = refl
  group_starts_over e n w t g = absurd (true≢false (sym g))

  module _ (i : Info) where
    pub no_starts : is_group (info_facts i).expr ≡ false → is_concat (info_facts i).expr ≡ false → marked_groups a.tree (info_tree i) ≡ []
    no_starts g c = ap (marked_groups a.tree) (tree_out i) ∙ other_starts (out-Info i).expr.now (out-Info i).start_group (info_within i)
        (trees (map info_tree (info_children i))) g c

    pub starts_of_concat : is_concat (info_facts i).expr ≡ true → marked_groups a.tree (info_tree i) ≡ filter_map group_number
        (first_marked_nodes a.tree (trees (map info_tree (info_children i))))
    starts_of_concat c = ap (marked_groups a.tree) (tree_out i) ∙ concat_starts (out-Info i).expr.now (out-Info i).start_group (info_within i)
        (trees (map info_tree (info_children i))) c

    pub starts_of_group : (b : Info) → is_group (info_facts i).expr ≡ true → info_children i ≡ b ∷ []
        → marked_groups a.tree (info_tree i) ≡ (info_facts i).start_group ∷ marked_groups a.tree (info_tree b)
    starts_of_group b g only =
        ap (marked_groups a.tree) (tree_out i)
        ∙ ap (λ l. marked_groups a.tree (node_over (out-Info i).expr.now (out-Info i).start_group (info_within i) (trees (map info_tree l)))) only
        ∙ group_starts_over (out-Info i).expr.now (out-Info i).start_group (info_within i) (info_tree b) g

  -- the groups at the start of what is left of neighbours
  abbrev pub left_starts : List Info → List ℕ
  left_starts is = filter_map group_number (first_marked_nodes a.tree (trees (map info_tree is)))

  -- those of the first, and those of the rest if the first takes nothing
  left_split : (l : List Info) (i : ℕ) (x : Info) (b : Bool) → i < length l → x ≡ get_or l i x →
      takes_nothing a.tree (info_tree x) ≡ b →
      left_starts (drop i l)
      ≡ marked_groups a.tree (info_tree x)
      ++ filter_map group_number (if b then first_marked_nodes a.tree (trees (map info_tree (drop (i + 1) l))) else [])
  left_split l i x b lt at is =
      let rest : Bool → List Tree = λ v. if v then first_marked_nodes a.tree (trees (map info_tree (drop (i + 1) l))) else [] in
      ap left_starts (rest_at l i x lt at)
      ∙ filter_map-append group_number (marked_nodes a.tree (info_tree x)) (rest (takes_nothing a.tree (info_tree x)))
      ∙ ap (λ v. marked_groups a.tree (info_tree x) ++ filter_map group_number (rest v)) is

  pub left_more : (l : List Info) (i : ℕ) (x : Info) → i < length l → x ≡ get_or l i x →
      takes_nothing a.tree (info_tree x) ≡ true →
      left_starts (drop i l) ≡ marked_groups a.tree (info_tree x) ++ left_starts (drop (i + 1) l)
  left_more l i x lt at empty = left_split l i x true lt at empty

  pub left_last : (l : List Info) (i : ℕ) (x : Info) → i < length l → x ≡ get_or l i x →
      takes_nothing a.tree (info_tree x) ≡ false →
      left_starts (drop i l) ≡ marked_groups a.tree (info_tree x)
  left_last l i x lt at takes = left_split l i x false lt at takes ∙ append-nil (marked_groups a.tree (info_tree x))

  pub left_done : (l : List Info) (i : ℕ) → length l ≤ i → left_starts (drop i l) ≡ []
  left_done l i end = ap left_starts (drop_all i l end)

pub group_below : (e : Expr) → is_group e ≡ true → length (below e) ≡ 1
group_below (code.Group' b e) h = refl
group_below e h = absurd (true≢false (sym h))

-- the body of a group
module _ (i b : Info) (g : is_group (info_facts i).expr ≡ true) (at : b ≡ get_or (info_children i) 0 b) (a : Analysis) (k : IsKnown a i) where
  one_child : length (info_children i) ≡ 1
  one_child = (k.node).arity ∙ group_below (info_facts i).expr g

  pub only_body : info_children i ≡ b ∷ []
  only_body = only_one (info_children i) b one_child at

  pub body_known : IsKnown a b
  body_known = known_child a b (each_at (IsAnalysed a) (info_children i) 0 b k.children (omega (arith, one_child)) at)

  pub body_smaller : node_count b < node_count i
  body_smaller = omega (arith, node_count-below i, child_count (info_children i) 0 b (omega (arith, one_child)) at)

-- ---- the body with a number

body_below : (n g : ℕ) (hs : List (ℕ × Tree)) → AreNumbered n hs → g < n → body_in hs g ≡ None
body_below n g [] h lt = refl
body_below n g (x ∷ hs) h lt =
    ap (λ b. if b then Some x.1 else body_in hs g) (ne_eqb x.0 g (λ e. omega (arith, e, h.0, lt))) ∙ body_below (suc n) g hs h.1 (omega (arith, lt))

body_past : (n k : ℕ) (hs : List (ℕ × Tree)) → AreNumbered n hs → length hs ≤ k → body_in hs (n + k) ≡ None
body_past n k [] h le = refl
body_past n zero (x ∷ hs) h le = absurd (omega (arith, le))
body_past n (suc k) (x ∷ hs) h le =
    ap (λ b. if b then Some x.1 else body_in hs (n + suc k)) (ne_eqb x.0 (n + suc k) (λ e. omega (arith, e, h.0)))
    ∙ (let next : n + suc k ≡ suc n + k = omega arith in ap (body_in hs) next) ∙ body_past (suc n) k hs h.1 (omega (arith, le))

pub number_at : (n k : ℕ) (hs : List (ℕ × Tree)) (d : ℕ × Tree) → AreNumbered n hs → k < length hs → (get_or hs k d).0 ≡ n + k
number_at n k [] d h lt = absurd (omega (arith, lt))
number_at n zero (x ∷ hs) d h lt = omega (arith, h.0)
number_at n (suc k) (x ∷ hs) d h lt = omega (arith, number_at (suc n) k hs d h.1 (omega (arith, lt)))

body_at : (n k : ℕ) (hs : List (ℕ × Tree)) (d : Tree) → AreNumbered n hs → k < length hs → body_in hs (n + k) ≡ Some (get_or (map (λ h. h.1) hs) k d)
body_at n k [] d h lt = absurd (omega (arith, lt))
body_at n zero (x ∷ hs) d h lt =
    ap (λ b. if b then Some x.1 else body_in hs (n + 0)) (eq-eqb x.0 (n + 0) (omega (arith, h.0)))
body_at n (suc k) (x ∷ hs) d h lt =
    ap (λ b. if b then Some x.1 else body_in hs (n + suc k)) (ne_eqb x.0 (n + suc k) (λ e. omega (arith, e, h.0)))
    ∙ (let next : n + suc k ≡ suc n + k = omega arith in ap (body_in hs) next) ∙ body_at (suc n) k hs d h.1 (omega (arith, lt))

target_of_group : (whole : Tree) (g : ℕ) → ¬ (g ≡ 0) → target whole g ≡ body_in (groups whole) g
unfolding target
target_of_group whole zero h = absurd (h refl)
target_of_group whole (suc g) h = refl

module _ (whole : Tree) (first g : ℕ) (numbered : AreNumbered first (groups whole)) (not_zero : ¬ (g ≡ 0)) where
  pub target_below : g < first → target whole g ≡ None
  target_below lt = target_of_group whole g not_zero ∙ body_below first g (groups whole) numbered lt

  module _ (k : ℕ) (is : g ≡ first + k) where
    pub target_past : length (groups whole) ≤ k → target whole g ≡ None
    target_past le = target_of_group whole g not_zero ∙ ap (body_in (groups whole)) is ∙ body_past first k (groups whole) numbered le

    pub target_at : (d : Tree) → k < length (groups whole) → target whole g ≡ Some (get_or (map (λ h. h.1) (groups whole)) k d)
    target_at d lt = target_of_group whole g not_zero ∙ ap (body_in (groups whole)) is ∙ body_at first k (groups whole) d numbered lt
