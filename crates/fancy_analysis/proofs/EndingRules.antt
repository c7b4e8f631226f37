-- Whether a node ends, by how its parts do; and the flags that no round changes tell what can end.
use Rattle.std.proofs.Common.{◌≡◌, ℕ, ◌+◌, ◌<◌, ◌≤◌, Bool, true, false, List, [], ◌∷◌, ◌++◌, length, take, get_or, ap, ◌∙◌, arith, ◌&&◌, ◌||◌, ◌==◌, map, sym, refl, zero, suc, ◌⊎◌, inl, inr, ⊎_elim, max, nat_lt, replicate, filter_map, slice_index_or, slice_set, Option, Some, None, subst, lt-ltb}
use Rattle.std.proofs.lemmas.List.{take_all, length-map, length-take-le, map-append, get_or_default, get_or_past}
use Rattle.fancy_analysis.specs.Endings.{ends_by, all_end_by, some_end_by, before_parts, with_part, node_ends, is_ended_group, is_own_end, group_ends, IsRootOf, flag_count, next_ends}
use Rattle.std.proofs.Math.Bool.{and_assoc, and-true, or_assoc, or_comm, or-false}
use Rattle.fancy_meaning.specs.Tree.{Tree, Trees, trees, none, more, parts, Concat, Alt, Group, LookAround, Repeat, AtomicGroup, DefineGroup, Conditional, SubroutineCall, AbsentRepeater, AbsentStopper, AbsentExpression, NoLook}
use Rattle.fancy_info.specs.declared.info.Info.{Info}
use Rattle.fancy_expr.specs.declared.expr.Absent.{Absent}
use Rattle.fancy_expr.specs.declared.expr.Expr.{Expr}
use Rattle.fancy_expr.specs.Exprs.{below, below_absent}
use Rattle.fancy_info.specs.Infos.{nth, absent_over, node_over, info_tree, info_children, info_facts}
use Rattle.fancy_meaning.specs.Sizes.{Known}
use Rattle.fancy_analysis.specs.Made.{IsSized}
use Rattle.fancy_info.proofs.Unfolded.{tree_out}
use Rattle.fancy_expr.proofs.Walks.{taken}
use Rattle.fancy_analysis.proofs.InfoNodes.{absent_alike, or_and, any_in_each, any-below, any-taken, sized_parts}
use Rattle.std.specs.List.{list_any}
use Rattle.std.proofs.lemmas.Bool.{and_from, and_parts, cases_lt, eqb-true, ne_eqb, cond-true, cond-false, or_cases, or_left, or_right}
use Rattle.std.proofs.lemmas.Bool.Decides.{eqb_tells}
use Rattle.std.proofs.lemmas.Option.{none-some, same_Some}
use Rattle.fancy_meaning.specs.Nodes.{nodes, as_group, groups, body_in, target, group_count}
use Rattle.fancy_meaning.specs.Places.{range_from}
use Rattle.fancy_meaning.specs.Recursion.{CanEnd, AllEnd, SomeEnds, EndsWithParts, ends_with_parts, one_ends, not_required, body_ends, false_branch_ends, true_branch_ends, target_ends, no_target, none_left, and_more, this_one, a_later}
use Rattle.fancy_meaning.specs.Numbering.{numbered}
use Rattle.fancy_info.proofs.GroupNumbers.{numbers}
use Rattle.fancy_expr.proofs.Listed.{false_true}
use Rattle.fancy_meaning.specs.Tree as plain
use Rattle.fancy_expr.specs.declared.expr.Absent.TheVariants as code_absent
use Rattle.fancy_expr.specs.declared.expr.Expr.TheVariants as code
use Rattle.fancy_analysis.specs.Endings as flag

abbrev pub parts_from : Expr → ℕ → Bool → List Bool → Bool
parts_from e i p [] = p
parts_from e i p (b ∷ bs) = parts_from e (suc i) (with_part e i p b) bs

parts-append : (e : Expr) (i n : ℕ) (p : Bool) (bs : List Bool) (b : Bool) → i + length bs ≡ n →
    parts_from e i p (bs ++ b ∷ []) ≡ with_part e n (parts_from e i p bs) b
parts-append e i n p [] b is =
    let same : i ≡ n = omega arith in
    ap (λ k. with_part e k p b) same
parts-append e i n p (c ∷ bs) b is = parts-append e (suc i) n (with_part e i p c) bs b (omega arith)

module _ (flags : List Bool) where
  abbrev ended : Info → Bool
  ended i = ends_by flags (info_tree i)

  -- how so many of the parts end
  abbrev pub ends_of : Expr → List Info → Bool
  ends_of e is = parts_from e 0 (before_parts e) (map ended is)

  pub ends-taken : (e : Expr) (is : List Info) (n : ℕ) (i : Info) → n < length is → i ≡ get_or is n i →
      ends_of e (take (n + 1) is) ≡ with_part e n (ends_of e (take n is)) (ends_by flags (info_tree i))
  ends-taken e is n i h at =
      ap (ends_of e) (taken is n i h at)
      ∙ ap (parts_from e 0 (before_parts e)) (map-append ended (take n is) (i ∷ []))
      ∙ parts-append e 0 n (before_parts e) (map ended (take n is)) (ended i)
      (omega (arith, length-map (take n is) ended, length-take-le n is (omega arith)))

  all-from : (e : Expr) → ((i : ℕ) (p b : Bool) → with_part e i p b ≡ (p && b)) → (i : ℕ) (p : Bool) (ts : List Tree) →
      parts_from e i p (map (ends_by flags) ts) ≡ (p && all_end_by flags (trees ts))
  all-from e and i p [] = sym (and-true p)
  all-from e and i p (t ∷ ts) =
      all-from e and (suc i) (with_part e i p (ends_by flags t)) ts
      ∙ ap (λ q. q && all_end_by flags (trees ts)) (and i p (ends_by flags t))
      ∙ and_assoc p (ends_by flags t) (all_end_by flags (trees ts))

  some-from : (e : Expr) → ((i : ℕ) (p b : Bool) → with_part e i p b ≡ (p || b)) → (i : ℕ) (p : Bool) (ts : List Tree) →
      parts_from e i p (map (ends_by flags) ts) ≡ (p || some_end_by flags (trees ts))
  some-from e or i p [] = sym (or-false p)
  some-from e or i p (t ∷ ts) =
      some-from e or (suc i) (with_part e i p (ends_by flags t)) ts
      ∙ ap (λ q. q || some_end_by flags (trees ts)) (or i p (ends_by flags t))
      ∙ or_assoc p (ends_by flags t) (some_end_by flags (trees ts))

  no_part_ends : (ts : List Tree) → length ts ≡ 0 → all_end_by flags (trees ts) ≡ true
  no_part_ends [] h = refl
  no_part_ends (t ∷ ts) h = absurd (omega arith)

  one_part_ends : (ts : List Tree) → length ts ≡ 1 → all_end_by flags (trees ts) ≡ ends_by flags (nth (trees ts) 0)
  one_part_ends [] h = absurd (omega arith)
  one_part_ends (t ∷ []) h = and-true (ends_by flags t)
  one_part_ends (t ∷ u ∷ ts) h = absurd (omega arith)

  two_parts_end : (ts : List Tree) → length ts ≡ 2 → all_end_by flags (trees ts) ≡ (ends_by flags (nth (trees ts) 0) && ends_by flags (nth (trees ts) 1))
  two_parts_end [] h = absurd (omega arith)
  two_parts_end (t ∷ []) h = absurd (omega arith)
  two_parts_end (t ∷ u ∷ []) h = ap (λ b. ends_by flags t && b) (and-true (ends_by flags u))
  two_parts_end (t ∷ u ∷ v ∷ ts) h = absurd (omega arith)

  absent_ends : (a : Absent) (ts : List Tree) → length ts ≡ length (below_absent a) → all_end_by flags (trees ts) ≡ ends_by flags (absent_over a (trees ts))
  absent_ends (code_absent.Repeater' b e) ts h = one_part_ends ts h
  absent_ends (code_absent.Expression' b a c e) ts h = two_parts_end ts h
  absent_ends (code_absent.Stopper' b e) ts h = one_part_ends ts h
  absent_ends code_absent.Clear ts h = no_part_ends ts h

  over_ends : (e : Expr) (n : ℕ) (w : plain.Within) (ts : List Tree) → length ts ≡ length (below e) →
      node_ends flags e (parts_from e 0 (before_parts e) (map (ends_by flags) ts)) ≡ ends_by flags (node_over e n w (trees ts))
  over_ends (code.Concat' shape row) n w ts h = all-from (code.Concat' shape row) (λ i p b. refl) 0 true ts
  over_ends (code.Alt' shape row) n w ts h = some-from (code.Alt' shape row) (λ i p b. refl) 0 false ts
  over_ends (code.Group' b e) n w ts h = all-from (code.Group' b e) (λ i p b. refl) 0 true ts ∙ one_part_ends ts h
  over_ends (code.LookAround' b e look) n w ts h = all-from (code.LookAround' b e look) (λ i p b. refl) 0 true ts ∙ one_part_ends ts h
  over_ends (code.Repeat' b e lo hi greedy) n w ts h =
      ap (λ x. (lo == 0) || x) (all-from (code.Repeat' b e lo hi greedy) (λ i p b. refl) 0 true ts ∙ one_part_ends ts h)
  over_ends (code.AtomicGroup' b e) n w ts h = all-from (code.AtomicGroup' b e) (λ i p b. refl) 0 true ts ∙ one_part_ends ts h
  over_ends (code.Conditional' b c d t x f) n w [] h = absurd (omega arith)
  over_ends (code.Conditional' b c d t x f) n w (p ∷ []) h = absurd (omega arith)
  over_ends (code.Conditional' b c d t x f) n w (p ∷ q ∷ []) h = absurd (omega arith)
  over_ends (code.Conditional' b c d t x f) n w (p ∷ q ∷ r ∷ []) h = refl
  over_ends (code.Conditional' b c d t x f) n w (p ∷ q ∷ r ∷ s ∷ ts) h = absurd (omega arith)
  over_ends (code.Absent a) n w ts h = all-from (code.Absent a) (λ i p b. refl) 0 true ts ∙ absent_ends a ts h
  over_ends (code.DefineGroup' b e) n w ts h = all-from (code.DefineGroup' b e) (λ i p b. refl) 0 true ts ∙ one_part_ends ts h
  over_ends (code.SubroutineCall g) n w ts h = refl
  over_ends e n w ts h = all-from e (λ i p b. refl) 0 true ts ∙ no_part_ends ts h

  map-map : (is : List Info) → map ended is ≡ map (ends_by flags) (map info_tree is)
  map-map [] = refl
  map-map (i ∷ is) = ap (λ l. ended i ∷ l) (map-map is)

  -- the node ends where its parts say so
  pub ends-here : (known : Known) (i : Info) (n : ℕ) → IsSized known i → length (info_children i) ≤ n →
      node_ends flags (info_facts i).expr (ends_of (info_facts i).expr (take n (info_children i))) ≡ ends_by flags (info_tree i)
  ends-here known i n found h =
      let f = info_facts i in
      let ts = map info_tree (info_children i) in
      ap (λ l. node_ends flags f.expr (ends_of f.expr l)) (take_all n (info_children i) h)
      ∙ ap (λ l. node_ends flags f.expr (parts_from f.expr 0 (before_parts f.expr) l)) (map-map (info_children i))
      ∙ over_ends f.expr f.start_group f.within ts (length-map (info_children i) info_tree ∙ sized_parts known i found)
      ∙ ap (ends_by flags) (sym (tree_out i))

  -- ---- the groups of a node

  over_own : (g : ℕ) (e : Expr) (n : ℕ) (w : plain.Within) (ts : Trees) →
      is_ended_group flags g (node_over e n w ts) ≡ is_own_end e n (ends_by flags (node_over e n w ts)) g
  over_own g (code.Group' b e) n w ts = refl
  over_own g (code.Absent a) n w ts = absent_alike (is_ended_group flags g) false (λ y. refl) (λ y z. refl) (λ y. refl) refl a ts
  over_own g e n w ts = refl

  pub own_end : (g : ℕ) (i : Info) →
      is_ended_group flags g (info_tree i) ≡ is_own_end (info_facts i).expr (info_facts i).start_group (ends_by flags (info_tree i)) g
  own_end g i =
      let f = info_facts i in
      ap (is_ended_group flags g) (tree_out i)
      ∙ over_own g f.expr f.start_group f.within (trees (map info_tree (info_children i)))
      ∙ ap (λ t. is_own_end f.expr f.start_group (ends_by flags t) g) (sym (tree_out i))

  -- one child more
  pub flag_more : (g : ℕ) (is : List Info) (n : ℕ) (i : Info) (old now next lt : Bool) → n < length is → i ≡ get_or is n i →
      now ≡ (old || (lt && any_in_each (is_ended_group flags g) (take n is))) → next ≡ (now || (lt && group_ends flags (info_tree i) g)) →
      next ≡ (old || (lt && any_in_each (is_ended_group flags g) (take (n + 1) is)))
  flag_more g is n i old now next lt h at before here =
      here
      ∙ ap (λ b. b || (lt && group_ends flags (info_tree i) g)) before
      ∙ or_and old lt (any_in_each (is_ended_group flags g) (take n is)) (group_ends flags (info_tree i) g)
      ∙ ap (λ b. old || (lt && b)) (sym (any-taken (is_ended_group flags g) is n i h at))

  -- and the node itself
  pub flag_all : (known : Known) (g : ℕ) (i : Info) (n : ℕ) (old now next lt ends : Bool) → IsSized known i → length (info_children i) ≤ n →
      ends ≡ ends_by flags (info_tree i) → now ≡ (old || (lt && any_in_each (is_ended_group flags g) (take n (info_children i)))) →
      next ≡ (now || (lt && is_own_end (info_facts i).expr (info_facts i).start_group ends g)) →
      next ≡ (old || (lt && group_ends flags (info_tree i) g))
  flag_all known g i n old now next lt ends found h is before here =
      let test = is_ended_group flags g in
      here
      ∙ ap (λ b. b || (lt && is_own_end (info_facts i).expr (info_facts i).start_group ends g)) (before
      ∙ ap (λ l. old || (lt && any_in_each test l)) (take_all n (info_children i) h))
      ∙ ap (λ e. (old || (lt && any_in_each test (info_children i))) || (lt && is_own_end (info_facts i).expr (info_facts i).start_group e g)) is
      ∙ ap (λ b. (old || (lt && any_in_each test (info_children i))) || (lt && b)) (sym (own_end g i))
      ∙ or_and old lt (any_in_each test (info_children i)) (test (info_tree i))
      ∙ ap (λ b. old || (lt && b)) (or_comm (any_in_each test (info_children i)) (test (info_tree i)) ∙ sym (any-below test i (sized_parts known i found)))

-- ---- groups by number

abbrev numbers_of : List (ℕ × Tree) → List ℕ
numbers_of hs = map (λ h. h.0) hs

-- the body of a group passes, if there is one
abbrev is_body : (Tree → Bool) → Option Tree → Bool
is_body f None = false
is_body f (Some e) = f e

pub none_before : (hs : List (ℕ × Tree)) (m g : ℕ) → numbers_of hs ≡ range_from m (length hs) → g < m → body_in hs g ≡ None
none_before [] m g row h = refl
none_before (k ∷ hs) m g row h =
    let head : k.0 ≡ m = cc in
    cond-false (k.0 == g) (Some k.1) (body_in hs g) (ne_eqb k.0 g (λ is. omega (arith, head, is, h))) ∙ none_before hs (suc m) g (cc) (omega (arith, h))

module _ (f : Tree → Bool) (g : ℕ) where
  abbrev passes : ℕ × Tree → Bool
  passes h = (h.0 == g) && f h.1

  any_body : (hs : List (ℕ × Tree)) (m : ℕ) → numbers_of hs ≡ range_from m (length hs) → list_any passes hs ≡ is_body f (body_in hs g)
  any_body [] m row = refl
  any_body (k ∷ hs) m row =
      let head : k.0 ≡ m = cc in
      let tail : numbers_of hs ≡ range_from (suc m) (length hs) = cc in
      ap (λ b. passes k || b) (any_body hs (suc m) tail)
      ∙ ⊎_elim
      (λ same. let is : k.0 ≡ g = same.1 in
      ap (λ o. ((k.0 == g) && f k.1) || is_body f o) (none_before hs (suc m) g tail (omega (arith, head, is)))
      ∙ or-false (passes k)
      ∙ ap (λ b. b && f k.1) same.0
      ∙ ap (is_body f) (sym (cond-true (k.0 == g) (Some k.1) (body_in hs g) same.0)))
      (λ other. ap (λ b. (b && f k.1) || is_body f (body_in hs g)) other.0
      ∙ ap (is_body f) (sym (cond-false (k.0 == g) (Some k.1) (body_in hs g) other.0)))
      (eqb_tells k.0 g)

  is_some_body : (o : Option Tree) → is_body f o ≡ true → (e : Tree) × (o ≡ Some e) × (f e ≡ true)
  is_some_body None h = absurd (false_true h)
  is_some_body (Some e) h = (e, refl, h)

pub none_past : (hs : List (ℕ × Tree)) (m g : ℕ) → numbers_of hs ≡ range_from m (length hs) → m + length hs ≤ g → body_in hs g ≡ None
none_past [] m g row h = refl
none_past (k ∷ hs) m g row h =
    let head : k.0 ≡ m = cc in
    ⊎_elim
    (λ same. let is : k.0 ≡ g = same.1 in absurd (omega (arith, head, is, h)))
    (λ other. cond-false (k.0 == g) (Some k.1) (body_in hs g) other.0 ∙ none_past hs (suc m) g (cc) (omega (arith, h)))
    (eqb_tells k.0 g)

pub some_within : (hs : List (ℕ × Tree)) (m g : ℕ) → numbers_of hs ≡ range_from m (length hs) → m ≤ g → g < m + length hs → body_in hs g ≡ None → ⊥
some_within [] m g row low high is = absurd (omega (arith, low, high))
some_within (k ∷ hs) m g row low high is =
    let head : k.0 ≡ m = cc in
    ⊎_elim
    (λ same. none-some k.1 (sym is ∙ cond-true (k.0 == g) (Some k.1) (body_in hs g) same.0))
    (λ other. ⊎_elim
    (λ lt. some_within hs (suc m) g (cc) lt (omega (arith, high)) (sym (cond-false (k.0 == g) (Some k.1) (body_in hs g) other.0) ∙ is))
    (λ ge. let is_same : k.0 ≡ g = omega (arith, head, ge, low) in absurd (other.1 is_same))
    (cases_lt m g))
    (eqb_tells k.0 g)

any-groups : (flags : List Bool) (g : ℕ) (es : List Tree) → list_any (is_ended_group flags g) es ≡ list_any (passes (ends_by flags) g) (filter_map as_group es)
any-groups flags g [] = refl
any-groups flags g (Group h e ∷ es) = ap (λ b. ((h == g) && ends_by flags e) || b) (any-groups flags g es)
any-groups flags g (e ∷ es) = any-groups flags g es

-- ---- flags

within_or_past : (flags : List Bool) (g : ℕ) → slice_index_or flags g true ≡ true → (slice_index_or flags g false ≡ true) ⊎ (length flags ≤ g)
within_or_past flags g h = ⊎_elim (λ lt. inl (get_or_default flags g false true lt ∙ h)) (λ ge. inr ge) (cases_lt g (length flags))

true_within : (flags : List Bool) (g : ℕ) → slice_index_or flags g false ≡ true → slice_index_or flags g true ≡ true
true_within flags g h = ⊎_elim (λ lt. get_or_default flags g true false lt ∙ h) (λ ge. get_or_past flags g true ge) (cases_lt g (length flags))

-- how many flags are set
abbrev pub set_count : List Bool → ℕ
set_count [] = 0
set_count (true ∷ flags) = suc (set_count flags)
set_count (false ∷ flags) = set_count flags

-- each set flag is set there too
abbrev pub Grows : List Bool → List Bool → Type 0
Grows xs ys = (g : ℕ) → slice_index_or xs g false ≡ true → slice_index_or ys g false ≡ true

pub count_grows : (xs ys : List Bool) → length ys ≡ length xs → Grows xs ys → set_count xs ≤ set_count ys
count_grows [] ys h grows = omega arith
count_grows (x ∷ xs) [] h grows = absurd (omega (arith, h))
count_grows (true ∷ xs) (true ∷ ys) h grows = let rest = count_grows xs ys (omega (arith, h)) (λ g. grows (suc g)) in omega (arith, rest)
count_grows (true ∷ xs) (false ∷ ys) h grows = absurd (false_true (grows 0 refl))
count_grows (false ∷ xs) (true ∷ ys) h grows = let rest = count_grows xs ys (omega (arith, h)) (λ g. grows (suc g)) in omega (arith, rest)
count_grows (false ∷ xs) (false ∷ ys) h grows = count_grows xs ys (omega (arith, h)) (λ g. grows (suc g))

pub same_flags : (xs ys : List Bool) → length ys ≡ length xs → Grows xs ys → set_count ys ≡ set_count xs → ys ≡ xs
same_flags [] [] h grows same = refl
same_flags [] (y ∷ ys) h grows same = absurd (omega (arith, h))
same_flags (x ∷ xs) [] h grows same = absurd (omega (arith, h))
same_flags (true ∷ xs) (true ∷ ys) h grows same = ap (λ l. true ∷ l) (same_flags xs ys (omega (arith, h)) (λ g. grows (suc g)) (omega (arith, same)))
same_flags (true ∷ xs) (false ∷ ys) h grows same = absurd (false_true (grows 0 refl))
same_flags (false ∷ xs) (true ∷ ys) h grows same =
    let rest = count_grows xs ys (omega (arith, h)) (λ g. grows (suc g)) in absurd (omega (arith, rest, same))
same_flags (false ∷ xs) (false ∷ ys) h grows same = ap (λ l. false ∷ l) (same_flags xs ys (omega (arith, h)) (λ g. grows (suc g)) same)

count_most : (xs : List Bool) → set_count xs ≤ length xs
count_most [] = omega arith
count_most (true ∷ xs) = let rest = count_most xs in omega (arith, rest)
count_most (false ∷ xs) = let rest = count_most xs in omega (arith, rest)

pub all_set : (xs : List Bool) → 0 < length xs → length xs ≤ set_count xs → slice_index_or xs 0 false ≡ true
all_set [] some h = absurd (omega (arith, some))
all_set (true ∷ xs) some h = refl
all_set (false ∷ xs) some h = let rest = count_most xs in absurd (omega (arith, rest, h))

pub no_flag : (n g : ℕ) → slice_index_or (replicate n false) g false ≡ false
no_flag zero g = refl
no_flag (suc n) zero = refl
no_flag (suc n) (suc g) = no_flag n g

-- ---- what the flags say

-- a target that can end
pub record TargetEnds (whole : Tree) (g : ℕ) : Type 0 where
  pub body : Tree
  pub is_target : target whole g ≡ Some body
  pub ends : CanEnd whole body

-- each set flag is that of a target that can end
abbrev pub IsSoundFor : Tree → List Bool → Type 0
IsSoundFor whole flags = (g : ℕ) → slice_index_or flags g false ≡ true → TargetEnds whole g

-- the groups are numbered from n on, and there is a flag for each target
pub record HasFlags (whole : Tree) (n : ℕ) (flags : List Bool) : Type 0 where
  pub is_first : n ≤ 1
  pub numbers : map (λ h. h.0) (groups whole) ≡ range_from n (length (groups whole))
  pub count : length flags ≡ max (n + length (groups whole)) 1

module _ (whole : Tree) (n : ℕ) (flags : List Bool) (has : HasFlags whole n flags) where
  -- ---- what ends by sound flags can end

  module _ (sound : IsSoundFor whole flags) where
    past_none : (g : ℕ) → length flags ≤ g → target whole g ≡ None
    unfolding target
    past_none zero h = absurd (omega (arith, h, has.count))
    past_none (suc g) h = none_past (groups whole) n (suc g) has.numbers (omega (arith, h, has.count))

    call_sound : (g : ℕ) → slice_index_or flags g true ≡ true → CanEnd whole (SubroutineCall g)
    call_sound g h =
        ⊎_elim
        (λ set. let there = sound g set in target_ends there.is_target there.ends)
        (λ past. no_target (past_none g past))
        (within_or_past flags g h)

    repeat_sound : (lo : ℕ) (hi : Option ℕ) (greedy : Bool) (e : Tree) → (ends_by flags e ≡ true → CanEnd whole e) →
        ((lo == 0) || ends_by flags e) ≡ true → CanEnd whole (Repeat lo hi greedy e)
    repeat_sound lo hi greedy e body h =
        ⊎_elim
        (λ none. subst (λ k. CanEnd whole (Repeat k hi greedy e)) (sym (eqb-true lo 0 none)) not_required)
        (λ ends. body_ends (body ends))
        (or_cases (lo == 0) (ends_by flags e) h)

    conditional_sound : (c t f : Tree) → (ends_by flags c ≡ true → CanEnd whole c) → (ends_by flags t ≡ true → CanEnd whole t) →
        (ends_by flags f ≡ true → CanEnd whole f) → ((ends_by flags c && ends_by flags t) || ends_by flags f) ≡ true →
        CanEnd whole (Conditional c t f)
    conditional_sound c t f at_c at_t at_f h =
        ⊎_elim
        (λ p. true_branch_ends (at_c (and_parts (ends_by flags c) (ends_by flags t) p).0) (at_t (and_parts (ends_by flags c) (ends_by flags t) p).1))
        (λ q. false_branch_ends (at_f q))
        (or_cases (ends_by flags c && ends_by flags t) (ends_by flags f) h)

    some_sound_of : (e : Tree) (es : Trees) → (ends_by flags e ≡ true → CanEnd whole e) → (some_end_by flags es ≡ true → SomeEnds whole es) →
        (ends_by flags e || some_end_by flags es) ≡ true → SomeEnds whole (more e es)
    some_sound_of e es here later h = ⊎_elim (λ p. this_one (here p)) (λ q. a_later (later q)) (or_cases (ends_by flags e) (some_end_by flags es) h)

    mutual
      pub ends_sound : (e : Tree) → ends_by flags e ≡ true → CanEnd whole e
      ends_sound (Concat es) h = ends_with_parts tt (all_sound es h)
      ends_sound (Alt es) h = one_ends (some_sound es h)
      ends_sound (Group g e) h = ends_with_parts tt (and_more (ends_sound e h) none_left)
      ends_sound (LookAround look e) h = ends_with_parts tt (and_more (ends_sound e h) none_left)
      ends_sound (Repeat lo hi greedy e) h = repeat_sound lo hi greedy e (ends_sound e) h
      ends_sound (AtomicGroup e) h = ends_with_parts tt (and_more (ends_sound e h) none_left)
      ends_sound (DefineGroup e) h = ends_with_parts tt (and_more (ends_sound e h) none_left)
      ends_sound (Conditional c t f) h = conditional_sound c t f (ends_sound c) (ends_sound t) (ends_sound f) h
      ends_sound (SubroutineCall g) h = call_sound g h
      ends_sound (AbsentRepeater e) h = ends_with_parts tt (and_more (ends_sound e h) none_left)
      ends_sound (AbsentStopper e) h = ends_with_parts tt (and_more (ends_sound e h) none_left)
      ends_sound (AbsentExpression a e) h =
          ends_with_parts tt (and_more (ends_sound a (and_parts (ends_by flags a) (ends_by flags e) h).0)
          (and_more (ends_sound e (and_parts (ends_by flags a) (ends_by flags e) h).1) none_left))
      ends_sound e h = ends_with_parts tt none_left

      all_sound : (es : Trees) → all_end_by flags es ≡ true → AllEnd whole es
      all_sound none h = none_left
      all_sound (more e es) h =
          and_more (ends_sound e (and_parts (ends_by flags e) (all_end_by flags es) h).0) (all_sound es (and_parts (ends_by flags e) (all_end_by flags es) h).1)

      some_sound : (es : Trees) → some_end_by flags es ≡ true → SomeEnds whole es
      some_sound none h = absurd (false_true h)
      some_sound (more e es) h = some_sound_of e es (ends_sound e) (some_sound es) h

    pub target_sound : (g : ℕ) → flag.target_ends flags whole g ≡ true → TargetEnds whole g
    unfolding target groups
    target_sound zero h = record { body = whole; is_target = refl; ends = ends_sound whole h }
    target_sound (suc g) h =
        let found = is_some_body (ends_by flags) (suc g) (body_in (groups whole) (suc g))
        (sym (any-groups flags (suc g) (nodes whole) ∙ any_body (ends_by flags) (suc g) (groups whole) n has.numbers) ∙ h) in
        record { body = found.0; is_target = found.1; ends = ends_sound found.0 found.2 }

  -- ---- what can end does so by flags that no round changes

  module _ (closed : (g : ℕ) → g < length flags → flag.target_ends flags whole g ≡ true → slice_index_or flags g false ≡ true) where
    target_complete : (g : ℕ) (e : Tree) → target whole g ≡ Some e → ends_by flags e ≡ true → flag.target_ends flags whole g ≡ true
    unfolding target groups
    target_complete zero e is h = ap (ends_by flags) (same_Some whole e is) ∙ h
    target_complete (suc g) e is h =
        any-groups flags (suc g) (nodes whole) ∙ any_body (ends_by flags) (suc g) (groups whole) n has.numbers ∙ ap (is_body (ends_by flags)) is ∙ h

    call_complete : (g : ℕ) (e : Tree) → target whole g ≡ Some e → ends_by flags e ≡ true → slice_index_or flags g true ≡ true
    call_complete g e is h =
        ⊎_elim
        (λ lt. true_within flags g (closed g lt (target_complete g e is h)))
        (λ ge. get_or_past flags g true ge)
        (cases_lt g (length flags))

    no_target_within : (g : ℕ) → target whole g ≡ None → g < length flags → ⊥
    unfolding target
    no_target_within zero is lt = none-some whole (sym is)
    no_target_within (suc g) is lt =
        let low : n ≤ suc g = omega (arith, has.is_first) in
        some_within (groups whole) n (suc g) has.numbers low (omega (arith, lt, has.count)) is

    none_complete : (g : ℕ) → target whole g ≡ None → slice_index_or flags g true ≡ true
    none_complete g is = ⊎_elim (λ lt. absurd (no_target_within g is lt)) (λ ge. get_or_past flags g true ge) (cases_lt g (length flags))

    alone : (e : Tree) → (ends_by flags e && true) ≡ true → ends_by flags e ≡ true
    alone e h = (and_parts (ends_by flags e) true h).0

    parts_complete : (e : Tree) → EndsWithParts e → all_end_by flags (parts e) ≡ true → ends_by flags e ≡ true
    parts_complete (Concat es) t h = h
    parts_complete (Alt es) t h = absurd t
    parts_complete (Group g e) t h = alone e h
    parts_complete (LookAround look e) t h = alone e h
    parts_complete (Repeat lo hi greedy e) t h = absurd t
    parts_complete (AtomicGroup e) t h = alone e h
    parts_complete (DefineGroup e) t h = alone e h
    parts_complete (Conditional c x f) t h = absurd t
    parts_complete (SubroutineCall g) t h = absurd t
    parts_complete (AbsentRepeater e) t h = alone e h
    parts_complete (AbsentStopper e) t h = alone e h
    parts_complete (AbsentExpression a e) t h =
        and_from (ends_by flags a) (ends_by flags e) (and_parts (ends_by flags a) (ends_by flags e && true) h).0
        (alone e (and_parts (ends_by flags a) (ends_by flags e && true) h).1)
    parts_complete e t h = refl

    mutual
      pub ends_complete : {e : Tree} → CanEnd whole e → ends_by flags e ≡ true
      ends_complete (ends_with_parts {e = e} t all) = parts_complete e t (all_complete all)
      ends_complete (one_ends s) = some_complete s
      ends_complete not_required = refl
      ends_complete (body_ends {lo = lo} {e = e} d) = or_right (lo == 0) (ends_by flags e) (ends_complete d)
      ends_complete (false_branch_ends {c = c} {t = t} {f = f} d) = or_right (ends_by flags c && ends_by flags t) (ends_by flags f) (ends_complete d)
      ends_complete (true_branch_ends {c = c} {t = t} {f = f} p q) =
          or_left (ends_by flags c && ends_by flags t) (ends_by flags f) (and_from (ends_by flags c) (ends_by flags t) (ends_complete p) (ends_complete q))
      ends_complete (target_ends {g = g} {e = e} is d) = call_complete g e is (ends_complete d)
      ends_complete (no_target {g = g} is) = none_complete g is

      all_complete : {es : Trees} → AllEnd whole es → all_end_by flags es ≡ true
      all_complete none_left = refl
      all_complete (and_more {e = e} {es = es} d ds) = and_from (ends_by flags e) (all_end_by flags es) (ends_complete d) (all_complete ds)

      some_complete : {es : Trees} → SomeEnds whole es → some_end_by flags es ≡ true
      some_complete (this_one {e = e} {es = es} d) = or_left (ends_by flags e) (some_end_by flags es) (ends_complete d)
      some_complete (a_later {e = e} {es = es} d) = or_right (ends_by flags e) (some_end_by flags es) (some_complete d)

-- ---- rounds

-- what a round makes of the flags
abbrev pub NextFlags : Tree → List Bool → List Bool → Type 0
NextFlags whole flags next =
    (g : ℕ) → slice_index_or next g false ≡ (slice_index_or flags g false || (nat_lt g (length flags) && flag.target_ends flags whole g))

pub next_of : (flags next : List Bool) (whole : Tree) (ends : Bool) → 0 < length flags → length next ≡ length flags → ends ≡ ends_by flags whole →
    ((g : ℕ) → slice_index_or next g false ≡ (slice_index_or flags g false || (nat_lt g (length flags) && group_ends flags whole g))) →
    (g : ℕ) →
    slice_index_or (slice_set next 0 (slice_index_or flags 0 false || ends)) g false
    ≡ (slice_index_or flags g false || (nat_lt g (length flags) && flag.target_ends flags whole g))
next_of [] next whole ends some same is groups g = absurd (omega (arith, some))
next_of (b ∷ flags) [] whole ends some same is groups g = absurd (omega (arith, same))
next_of (b ∷ flags) (x ∷ next) whole ends some same is groups zero =
    ap (λ e. b || e) is ∙ ap (λ t. b || (t && ends_by (b ∷ flags) whole)) (sym (lt-ltb 0 (length (b ∷ flags)) some))
next_of (b ∷ flags) (x ∷ next) whole ends some same is groups (suc g) = groups (suc g)

pub grows_next : (whole : Tree) (flags next : List Bool) → NextFlags whole flags next → Grows flags next
grows_next whole flags next is g set = is g ∙ or_left _ _ set

pub has_flags : (whole : Tree) (root : Info) (w : IsRootOf whole root) (flags : List Bool) → length flags ≡ flag_count root → HasFlags whole w.first flags
unfolding numbered group_count
has_flags whole root w flags h = record {
  is_first = w.is_first;
  numbers = subst (λ t. map (λ k. k.0) (groups t) ≡ range_from w.first (length (groups t))) (sym w.numbered) (numbers NoLook w.first w.parsed);
  count = h ∙ ap (λ k. max k 1) w.end_group;
}

pub sound_first : (whole : Tree) (flags : List Bool) → IsSoundFor whole flags → slice_index_or flags 0 false ≡ true → CanEnd whole whole
unfolding target
sound_first whole flags sound set = let there = sound 0 set in subst (CanEnd whole) (sym (same_Some whole there.body there.is_target)) there.ends

-- a round over the flags that are held
pub next_of_root : (whole : Tree) (root : Info) (w : IsRootOf whole root) (flags held next : List Bool) → NextFlags (info_tree root) held next →
    held ≡ flags → NextFlags whole flags next
next_of_root whole root w flags held next is at = subst (λ t. NextFlags t flags next) w.tree (subst (λ l. NextFlags (info_tree root) l next) at is)

-- a list by its elements
pub tabulated : {X : Type 0} (xs : List X) (d : X) (f : ℕ → X) (k : ℕ) → ((i : ℕ) → i < length xs → slice_index_or xs i d ≡ f (k + i)) →
    xs ≡ map f (range_from k (length xs))
tabulated [] d f k h = refl
tabulated (x ∷ xs) d f k h =
    let at : k + 0 ≡ k = omega arith in
    let here : x ≡ f k = h 0 (omega arith) ∙ ap f at in
    let rest = tabulated xs d f (suc k) (λ i lt. let up : k + suc i ≡ suc k + i = omega arith in h (suc i) (omega arith) ∙ ap f up) in
    ap (λ b. b ∷ xs) here ∙ ap (λ l. f k ∷ l) rest

pub next_is : (whole : Tree) (flags next : List Bool) → length next ≡ length flags → NextFlags whole flags next → next ≡ next_ends whole flags
next_is whole flags next long is =
    let f : ℕ → Bool = λ g. slice_index_or flags g false || flag.target_ends flags whole g in
    tabulated next false f 0 (λ i lt. is i
    ∙ ap (λ b. slice_index_or flags i false || (b && flag.target_ends flags whole i)) (lt-ltb i (length flags) (omega arith))
    ∙ ap f (omega arith)) ∙ ap (λ n. map f (range_from 0 n)) long

module _ (whole : Tree) (n : ℕ) (flags next : List Bool) (has : HasFlags whole n flags) (sound : IsSoundFor whole flags) (is : NextFlags whole flags next) where
  pub sound_next : IsSoundFor whole next
  sound_next g set =
      ⊎_elim
      (λ old. sound g old)
      (λ new. target_sound whole n flags has sound g (and_parts (nat_lt g (length flags)) (flag.target_ends flags whole g) new).1)
      (or_cases (slice_index_or flags g false) (nat_lt g (length flags) && flag.target_ends flags whole g) (sym (is g) ∙ set))

  pub first_complete : next ≡ flags → CanEnd whole whole → slice_index_or flags 0 false ≡ true
  first_complete same ends =
      let closed : (g : ℕ) → g < length flags → flag.target_ends flags whole g ≡ true → slice_index_or flags g false ≡ true =
      λ g lt h.
      ap (λ l. slice_index_or l g false) (sym same)
      ∙ is g
      ∙ or_right (slice_index_or flags g false) (nat_lt g (length flags) && flag.target_ends flags whole g)
      (and_from (nat_lt g (length flags)) (flag.target_ends flags whole g) (lt-ltb g (length flags) lt) h) in
      closed 0 (omega (arith, has.count)) (ends_complete whole n flags has closed ends)
