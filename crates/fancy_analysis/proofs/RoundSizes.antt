-- The sizes of groups, node by node, and round by round.
use Rattle.std.proofs.Common.{◌≡◌, ℕ, ◌+◌, ◌<◌, ◌≤◌, List, [], ◌∷◌, length, map, filter_map, get_or, refl, sym, ap, ◌∙◌, zero, suc, ◌-◌, Bool, true, false, ◌&&◌, ◌==◌, min, Option, Some, None, arith, ⊎_elim, replicate, slice_set, get_or-set_same, get_or-set_other}
use Rattle.std.specs.List.{fold}
use Rattle.std.proofs.Math.Bool.{and_assoc, and-false, and-true}
use Rattle.std.proofs.lemmas.List.{length-set, length-replicate, get_or-replicate}
use Rattle.std.proofs.lemmas.List.Sums.{fold-append}
use Rattle.std.proofs.lemmas.Bool.{and_parts, cond-true, cond-false, eqb-true}
use Rattle.std.proofs.lemmas.Bool.Decides.{eqb_tells, nat_tests}
use Rattle.std.specs.Bool.{beq}
use Rattle.std.specs.Cmp.{booleans_Decides}
use Rattle.fancy_meaning.specs.Tree.{Tree, Trees, Group, trees, Within}
use Rattle.fancy_meaning.specs.Nodes.{nodes, nodes_of_each, as_group, groups, group_count, body_in, target}
use Rattle.fancy_meaning.specs.Numbering.{numbered_within}
use Rattle.fancy_meaning.specs.Places.{range_from}
use Rattle.fancy_meaning.specs.Sizes.{Size, Known, exactly, plus, sum_of, either, any_of, size_by, size_in_round, next_round, after_rounds, known_of, unknown}
use Rattle.fancy_info.specs.declared.info.Info.{Info}
use Rattle.fancy_expr.specs.declared.expr.Expr.{Expr}
use Rattle.fancy_info.specs.Infos.{node_over, info_tree, info_size, info_children, info_facts}
use Rattle.fancy_info.proofs.GroupNumbers.{numbers}
use Rattle.fancy_info.proofs.Unfolded.{tree_out, each_here}
use Rattle.fancy_expr.proofs.Listed.{true_false}
use Rattle.fancy_expr.proofs.NodeParts.{nodes-parts}
use Rattle.fancy_analysis.specs.Made.{IsSizedNode, IsSized, set_size, with_size, with_sizes}
use Rattle.fancy_analysis.specs.Rounds.{same_size, same_sizes}
use Rattle.fancy_analysis.proofs.EndingRules.{none_before, tabulated}
use Rattle.fancy_analysis.proofs.InfoNodes.{absent_alike, parts-out, sized_parts}
use Rattle.fancy_meaning.specs.Tree as plain
use Rattle.fancy_expr.specs.declared.expr.Expr.TheVariants as code

module _ (known : Known) where
  -- the sizes of these trees under their numbers, one tree after the other
  abbrev pub with_each : List Size → List Info → List Size
  with_each table is = fold (λ t i. with_sizes known t (info_tree i)) table is

  each-nodes : (table : List Size) (is : List Info) → fold (with_size known) table (nodes_of_each (trees (map info_tree is))) ≡ with_each table is
  each-nodes table [] = refl
  each-nodes table (i ∷ is) =
      fold-append (with_size known) table (nodes (info_tree i)) (nodes_of_each (trees (map info_tree is)))
      ∙ each-nodes (with_sizes known table (info_tree i)) is

  over-own : (e : Expr) (n : ℕ) (w : plain.Within) (es : Trees) (table : List Size) →
      with_size known table (node_over e n w es) ≡ set_size e n (size_by known (node_over e n w es)) table
  over-own (code.Group' b e) n w es table = refl
  over-own (code.Absent a) n w es table = absent_alike (with_size known table) table (λ y. refl) (λ y z. refl) (λ y. refl) refl a es
  over-own e n w es table = refl

  -- the groups of a node: itself, and those of its children
  pub sizes-below : (i : Info) (table : List Size) → IsSized known i →
      with_each (set_size (info_facts i).expr (info_facts i).start_group (info_size i) table) (info_children i) ≡ with_sizes known table (info_tree i)
  sizes-below i table h =
      let f = info_facts i in
      ap (λ t. with_each t (info_children i)) (ap (λ s. set_size f.expr f.start_group s table) (each_here (IsSizedNode known) i h).size
      ∙ sym (over-own f.expr f.start_group f.within (trees (map info_tree (info_children i))) table)
      ∙ ap (with_size known table) (sym (tree_out i)))
      ∙ sym (each-nodes (with_size known table (info_tree i)) (info_children i))
      ∙ ap (λ ts. fold (with_size known) (with_size known table (info_tree i)) (nodes_of_each ts)) (sym (parts-out i (sized_parts known i h)))
      ∙ sym (ap (fold (with_size known) table) (nodes-parts (info_tree i)))

  -- ---- groups by their numbers

  -- the size of a group, or what was there
  abbrev size_or : Size → Option Tree → Size
  size_or s None = s
  size_or s (Some e) = size_by known e

  or_unknown : (o : Option Tree) → size_or unknown o ≡ size_in_round known o
  or_unknown None = refl
  or_unknown (Some e) = refl

  abbrev set_groups : List Size → List (ℕ × Tree) → List Size
  set_groups table gs = fold (λ t g. slice_set t g.0 (size_by known g.1)) table gs

  groups-set : (table : List Size) (ts : List Tree) → fold (with_size known) table ts ≡ set_groups table (filter_map as_group ts)
  groups-set table [] = refl
  groups-set table (Group g e ∷ ts) = groups-set (slice_set table g (size_by known e)) ts
  groups-set table (e ∷ ts) = groups-set table ts

  length-groups : (table : List Size) (gs : List (ℕ × Tree)) → length (set_groups table gs) ≡ length table
  length-groups table [] = refl
  length-groups table (g ∷ gs) = length-groups (slice_set table g.0 (size_by known g.1)) gs ∙ length-set table g.0 (size_by known g.1)

  -- with the numbers in order, from m on, each group is found by its number
  by_number : (table : List Size) (gs : List (ℕ × Tree)) (m g : ℕ) → map (λ h. h.0) gs ≡ range_from m (length gs) → g < length table →
      get_or (set_groups table gs) g unknown ≡ size_or (get_or table g unknown) (body_in gs g)
  by_number table [] m g row lt = refl
  by_number table (k ∷ gs) m g row lt =
      let head : k.0 ≡ m = cc in
      let next : List Size = slice_set table k.0 (size_by known k.1) in
      let rest : map (λ h. h.0) gs ≡ range_from (suc m) (length gs) = cc in
      by_number next gs (suc m) g rest (omega (arith, lt, length-set table k.0 (size_by known k.1)))
      ∙ ⊎_elim
      (λ same. let is : k.0 ≡ g = same.1 in
      ap (size_or (get_or next g unknown)) (none_before gs (suc m) g rest (omega (arith, head, is)))
      ∙ ap (λ i. get_or next i unknown) (sym is)
      ∙ get_or-set_same table k.0 (size_by known k.1) unknown (omega (arith, is, lt))
      ∙ ap (size_or (get_or table g unknown)) (sym (cond-true (k.0 == g) (Some k.1) (body_in gs g) same.0)))
      (λ other. ap (λ s. size_or s (body_in gs g)) (get_or-set_other table k.0 g (size_by known k.1) unknown (λ e. other.1 (sym e)))
      ∙ ap (size_or (get_or table g unknown)) (sym (cond-false (k.0 == g) (Some k.1) (body_in gs g) other.0)))
      (eqb_tells k.0 g)

  -- with the whole tree under 0 the table is that of a round
  pub round_set : (n : ℕ) (w : Within) (e : Tree) (count : ℕ) (s : Size) → count ≡ suc (group_count (numbered_within w n e)) →
      s ≡ size_by known (numbered_within w n e) →
      slice_set (with_sizes known (replicate count unknown) (numbered_within w n e)) 0 s ≡ next_round (numbered_within w n e) known
  unfolding target group_count groups
  round_set n w e count s counted is =
      tabulated (slice_set set 0 s) unknown f 0 (λ i lt. at i (omega (arith, lt, long, length-set set 0 s)) ∙ ap f (omega arith))
      ∙ ap (λ k. map f (range_from 0 k)) (length-set set 0 s ∙ long ∙ counted)
    where
      whole : Tree
      whole = numbered_within w n e

      gs : List (ℕ × Tree)
      gs = filter_map as_group (nodes whole)

      table : List Size
      table = replicate count unknown

      set : List Size
      set = with_sizes known table whole

      f : ℕ → Size
      f g = size_in_round known (target whole g)

      long : length set ≡ count
      long = ap length (groups-set table (nodes whole)) ∙ length-groups table gs ∙ length-replicate count unknown

      at : (i : ℕ) → i < count → get_or (slice_set set 0 s) i unknown ≡ f i
      at zero lt = get_or-set_same set 0 s unknown (omega (arith, lt, long)) ∙ is
      at (suc i) lt =
          get_or-set_other set 0 (suc i) s unknown (λ h. cc)
          ∙ ap (λ l. get_or l (suc i) unknown) (groups-set table (nodes whole))
          ∙ by_number table gs n (suc i) (numbers w n e) (omega (arith, lt, length-replicate count unknown))
          ∙ ap (λ x. size_or x (body_in gs (suc i))) (get_or-replicate count (suc i) unknown unknown lt)
          ∙ or_unknown (body_in gs (suc i))

-- ---- rounds that change nothing

pub steady : (whole : Tree) (i m : ℕ) → next_round whole (after_rounds whole i) ≡ after_rounds whole i → after_rounds whole (m + i) ≡ after_rounds whole i
steady whole i zero h = ap (after_rounds whole) (omega arith)
steady whole i (suc m) h =
    let next : suc m + i ≡ suc (m + i) = omega arith in
    ap (after_rounds whole) next ∙ ap (next_round whole) (steady whole i m h) ∙ h

pub settled : (whole : Tree) (i : ℕ) → i ≤ group_count whole → next_round whole (after_rounds whole i) ≡ after_rounds whole i →
    after_rounds whole i ≡ known_of whole
unfolding known_of
settled whole i le h =
    let total : group_count whole - i + i ≡ group_count whole = omega arith in
    sym (steady whole i (group_count whole - i) h) ∙ ap (after_rounds whole) total

pub last_round : (whole : Tree) (i : ℕ) → i ≡ group_count whole → after_rounds whole i ≡ known_of whole
unfolding known_of
last_round whole i h = ap (after_rounds whole) h

-- ---- sizes in turn

same_fields : (a b : Size) → a.least ≡ b.least → a.most ≡ b.most → a.is_const ≡ b.is_const → a ≡ b
same_fields a b least most flag =
    ap (λ x. record { least = x; most = a.most; is_const = a.is_const }) least
    ∙ ap (λ x. record { least = b.least; most = x; is_const = a.is_const }) most
    ∙ ap (λ x. record { least = b.least; most = b.most; is_const = x }) flag

both_same : (a b c : ℕ) → ((a == b) && min a b == c) ≡ ((b == c) && a == min b c)
both_same a b c = grind (arith, nat_tests)

const_assoc : (p q r : Bool) (a b c : ℕ) → ((p && q && a == b) && r && min a b == c) ≡ (p && (q && r && b == c) && a == min b c)
const_assoc true true true a b c = ap (λ x. x && min a b == c) (and-true (a == b)) ∙ both_same a b c
const_assoc true true false a b c = ap (λ x. x && min a b == c) (and-false (a == b))
const_assoc true false r a b c = refl
const_assoc false q r a b c = refl

plus_assoc : (a b c : Size) → plus (plus a b) c ≡ plus a (plus b c)
plus_assoc a b c = same_fields _ _ (omega arith) (omega arith) (and_assoc a.is_const b.is_const c.is_const)

either_assoc : (a b c : Size) → either (either a b) c ≡ either a (either b c)
either_assoc a b c = same_fields _ _ (omega arith) (omega arith) (const_assoc a.is_const b.is_const c.is_const a.least b.least c.least)

sum_from : (s a : Size) (ss : List Size) → fold plus (plus s a) ss ≡ plus s (sum_of (a ∷ ss))
sum_from s a [] = same_fields _ _ (omega arith) (omega arith) (ap (λ b. s.is_const && b) (sym (and-true a.is_const)))
sum_from s a (b ∷ ss) = sum_from (plus s a) b ss ∙ plus_assoc s a (sum_of (b ∷ ss))

pub sum_fold : (ss : List Size) → fold plus (exactly 0) ss ≡ sum_of ss
sum_fold [] = refl
sum_fold (a ∷ ss) = sum_from (exactly 0) a ss ∙ same_fields _ _ (omega arith) (omega arith) refl

pub any_fold : (a : Size) (ss : List Size) → fold either a ss ≡ any_of (a ∷ ss)
any_fold a [] = refl
any_fold a (b ∷ []) = refl
any_fold a (b ∷ c ∷ ss) =
    any_fold (either a b) (c ∷ ss) ∙ either_assoc a b (any_of (c ∷ ss))

-- ---- sizes that are the same

same_here : (a b : Size) → same_size a b ≡ true → a ≡ b
same_here a b h =
    let parts = and_parts (a.least == b.least) ((a.most == b.most) && beq a.is_const b.is_const) h in
    let rest = and_parts (a.most == b.most) (beq a.is_const b.is_const) parts.1 in
    same_fields a b (eqb-true a.least b.least parts.0) (eqb-true a.most b.most rest.0) ((booleans_Decides a.is_const b.is_const).0 rest.1)

pub same_known : (a b : Known) → same_sizes a b ≡ true → a ≡ b
same_known [] [] h = refl
same_known [] (y ∷ ys) h = absurd (true_false (sym h))
same_known (x ∷ xs) [] h = absurd (true_false (sym h))
same_known (x ∷ xs) (y ∷ ys) h =
    let parts = and_parts (same_size x y) (same_sizes xs ys) h in
    ap (λ s. s ∷ xs) (same_here x y parts.0) ∙ ap (λ l. y ∷ l) (same_known xs ys parts.1)
