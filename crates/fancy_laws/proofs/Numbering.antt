-- A numbered tree: its groups have the numbers from the first on, each finds its body, and its nodes are as fine as before.
use Rattle.std.proofs.Common.{◌≡◌, ℕ, zero, suc, ◌+◌, ◌≤◌, List, [], ◌∷◌, ◌++◌, length, map, filter_map, Contains, Option, Some, None, ◌==◌, refl, sym, ap, ap₂, subst, ◌∙◌, arith, ne_eqb, eq-eqb, length-append}
use Rattle.std.proofs.lemmas.Bool.{cond-true, cond-false}
use Rattle.std.proofs.lemmas.List.{map-append, length-map}
use Rattle.std.proofs.lemmas.List.Elements.{filter_map-append}
use Rattle.std.proofs.lemmas.Option.{none-some, same_Some}
use Rattle.std.specs.List.{cons_option}
use Rattle.fancy_meaning.specs.Tree.{Tree, Trees, none, more, Assert, Concat, Alt, Group, LookAround, Repeat, AtomicGroup, DefineGroup, Conditional, AbsentRepeater, AbsentStopper, AbsentExpression, Within, NoLook}
use Rattle.fancy_meaning.specs.Nodes.{nodes, nodes_of_each, as_group, groups, group_count, body_in, target}
use Rattle.fancy_meaning.specs.Numbering.{within, numbered_within, each_numbered, numbered}
use Rattle.fancy_meaning.specs.Places.{range_from}
use Rattle.fancy_meaning.specs.WellFormed.{IsFine}
use Rattle.fancy_laws.proofs.Every.{Every, no_item, item, every_append, every_append_parts, every_both, every_weaker, every_contains, every_contained}
use Rattle.fancy_laws.proofs.NodesBelow.{first_contained, later_contained}
use Rattle.fancy_laws.proofs.Characters.{range_split}

-- ---- the numbers

abbrev pub numbers_of : List Tree → List ℕ
numbers_of es = map (λ h. h.0) (filter_map as_group es)

abbrev count_of : List Tree → ℕ
count_of es = length (filter_map as_group es)

pub numbers_of_both : (xs ys : List Tree) → numbers_of (xs ++ ys) ≡ numbers_of xs ++ numbers_of ys
numbers_of_both xs ys =
    ap (map (λ h. h.0)) (filter_map-append as_group xs ys)
    ∙ map-append (λ h. h.0) (filter_map as_group xs) (filter_map as_group ys)

count_of_both : (xs ys : List Tree) → count_of (xs ++ ys) ≡ count_of xs + count_of ys
count_of_both xs ys =
    ap length (filter_map-append as_group xs ys) ∙ length-append (filter_map as_group xs) (filter_map as_group ys)

-- the numbers of one part, and on from there those of the next
on_from : (n m : ℕ) (xs ys before after : List Tree) → numbers_of xs ≡ range_from n (count_of before) → m ≡ n + count_of before →
    numbers_of ys ≡ range_from m (count_of after) →
    numbers_of (xs ++ ys) ≡ range_from n (count_of (before ++ after))
on_from n m xs ys before after a at b =
    numbers_of_both xs ys ∙ ap₂ ◌++◌ a b
    ∙ sym (range_split (count_of before) (count_of after) (count_of (before ++ after)) n m (count_of_both before after) at)

mutual
  unfolding group_count groups

  numbers_in : (w : Within) (n : ℕ) (e : Tree) → numbers_of (nodes (numbered_within w n e)) ≡ range_from n (count_of (nodes e))
  numbers_in w n (Assert old a) = refl
  numbers_in w n (Concat es) = numbers_in_each w n es
  numbers_in w n (Alt es) = numbers_in_each w n es
  numbers_in w n (Group old e) = ap (λ l. n ∷ l) (numbers_in w (suc n) e)
  numbers_in w n (LookAround look e) = numbers_in (within look) n e
  numbers_in w n (Repeat lo hi greedy e) = numbers_in w n e
  numbers_in w n (AtomicGroup e) = numbers_in w n e
  numbers_in w n (DefineGroup e) = numbers_in w n e
  numbers_in w n (Conditional c t f) =
      let m = n + group_count c in
      let k = m + group_count t in
      on_from n m (nodes (numbered_within w n c)) (nodes (numbered_within w m t) ++ nodes (numbered_within w k f)) (nodes c)
      (nodes t ++ nodes f) (numbers_in w n c) refl
      (on_from m k (nodes (numbered_within w m t)) (nodes (numbered_within w k f)) (nodes t) (nodes f) (numbers_in w m t) refl
      (numbers_in w k f))
  numbers_in w n (AbsentRepeater e) = numbers_in w n e
  numbers_in w n (AbsentStopper e) = numbers_in w n e
  numbers_in w n (AbsentExpression a e) =
      let m = n + group_count a in
      on_from n m (nodes (numbered_within w n a)) (nodes (numbered_within w m e)) (nodes a) (nodes e) (numbers_in w n a) refl
      (numbers_in w m e)
  numbers_in w n e = refl

  numbers_in_each : (w : Within) (n : ℕ) (es : Trees) →
      numbers_of (nodes_of_each (each_numbered w n es)) ≡ range_from n (count_of (nodes_of_each es))
  numbers_in_each w n none = refl
  numbers_in_each w n (more e es) =
      let m = n + group_count e in
      on_from n m (nodes (numbered_within w n e)) (nodes_of_each (each_numbered w m es)) (nodes e) (nodes_of_each es)
      (numbers_in w n e) refl (numbers_in_each w m es)

pub group_numbers : (n : ℕ) (e : Tree) → map (λ h. h.0) (groups (numbered n e)) ≡ range_from n (group_count e)
unfolding group_count groups numbered
group_numbers n e = numbers_in NoLook n e

length_of_range : (i n : ℕ) → length (range_from i n) ≡ n
length_of_range i zero = refl
length_of_range i (suc n) = ap suc (length_of_range (suc i) n)

pub numbered_has_as_many_groups : (n : ℕ) (e : Tree) → group_count (numbered n e) ≡ group_count e
unfolding group_count
numbered_has_as_many_groups n e =
    sym (length-map (groups (numbered n e)) (λ h. h.0)) ∙ ap length (group_numbers n e) ∙ length_of_range n (group_count e)

-- ---- each group's number finds its body

after_first : (n k : ℕ) (hs : List (ℕ × Tree)) → map (λ h. h.0) hs ≡ range_from n k → Every (λ h. n ≤ h.0) hs
after_first n k [] e = no_item
after_first n zero (h ∷ hs) e = absurd (omega (arith, ap length e))
after_first n (suc k) (h ∷ hs) e =
    let first : h.0 ≡ n = cc in
    let rest : map (λ x. x.0) hs ≡ range_from (suc n) k = cc in
    item (omega (arith, first)) (every_weaker (λ x le. omega (arith, le)) (after_first (suc n) k hs rest))

each_finds_body : (n k : ℕ) (hs : List (ℕ × Tree)) → map (λ h. h.0) hs ≡ range_from n k →
    Every (λ h. body_in hs h.0 ≡ Some h.1) hs
each_finds_body n k [] e = no_item
each_finds_body n zero (h ∷ hs) e = absurd (omega (arith, ap length e))
each_finds_body n (suc k) (h ∷ hs) e =
    let first : h.0 ≡ n = cc in
    let rest : map (λ x. x.0) hs ≡ range_from (suc n) k = cc in
    item (cond-true (h.0 == h.0) (Some h.1) (body_in hs h.0) (eq-eqb h.0 h.0 refl))
    (every_both
    (λ x le finds. cond-false (h.0 == x.0) (Some h.1) (body_in hs x.0) (ne_eqb h.0 x.0 (λ same. omega (arith, same, first, le))) ∙ finds)
    (after_first (suc n) k hs rest) (each_finds_body (suc n) k hs rest))

group_among : (es : List Tree) (g : ℕ) (body : Tree) → Contains es (Group g body) → Contains (filter_map as_group es) (g, body)
group_among es g body c = every_contained (Group g body) (every_node_is_among es) c (g, body) refl
  where
    every_node_is_among : (es : List Tree) →
        Every (λ e. (h : ℕ × Tree) → as_group e ≡ Some h → Contains (filter_map as_group es) h) es
    every_node_is_among [] = no_item
    every_node_is_among (e ∷ es) = go (as_group e) refl (every_node_is_among es)
      where
        go : (o : Option (ℕ × Tree)) → as_group e ≡ o →
            Every (λ e. (h : ℕ × Tree) → as_group e ≡ Some h → Contains (filter_map as_group es) h) es →
            Every (λ e. (h : ℕ × Tree) → as_group e ≡ Some h → Contains (cons_option o (filter_map as_group es)) h) (e ∷ es)
        go None is k = item (λ h same. absurd (none-some h (sym is ∙ same))) k
        go (Some g) is k =
            item (λ h same. subst (Contains (g ∷ filter_map as_group es)) (same_Some g h (sym is ∙ same))
            (first_contained g (filter_map as_group es)))
            (every_weaker (λ x f h same. later_contained g (filter_map as_group es) h (f h same)) k)

pub target_of_group : (n : ℕ) (e : Tree) (g : ℕ) (body : Tree) → Contains (nodes (numbered n e)) (Group (suc g) body) →
    target (numbered n e) (suc g) ≡ Some body
unfolding target groups
target_of_group n e g body c =
    every_contained (suc g, body) (each_finds_body n (group_count e) (groups (numbered n e)) (group_numbers n e))
    (group_among (nodes (numbered n e)) (suc g) body c)

-- ---- what is fine stays so

mutual
  fine_numbered : (w : Within) (n : ℕ) (e : Tree) → Every IsFine (nodes e) → Every IsFine (nodes (numbered_within w n e))
  fine_numbered w n (Assert old a) h = item tt no_item
  fine_numbered w n (Concat es) (item f h) = item tt (each_fine_numbered w n es h)
  fine_numbered w n (Alt es) (item f h) = item (some_branch es f) (each_fine_numbered w n es h)
    where
      some_branch : (es : Trees) → IsFine (Alt es) → IsFine (Alt (each_numbered w n es))
      some_branch none b = b
      some_branch (more x xs) b = tt
  fine_numbered w n (Group old e) (item f h) = item tt (fine_numbered w (suc n) e h)
  fine_numbered w n (LookAround look e) (item f h) = item tt (fine_numbered (within look) n e h)
  fine_numbered w n (Repeat lo hi greedy e) (item f h) = item f (fine_numbered w n e h)
  fine_numbered w n (AtomicGroup e) (item f h) = item tt (fine_numbered w n e h)
  fine_numbered w n (DefineGroup e) (item f h) = item tt (fine_numbered w n e h)
  fine_numbered w n (Conditional c t f) (item i h) =
      let m = n + group_count c in
      let front = every_append_parts (nodes c) (nodes t ++ nodes f) h in
      let back = every_append_parts (nodes t) (nodes f) front.1 in
      item tt (every_append (fine_numbered w n c front.0)
      (every_append (fine_numbered w m t back.0) (fine_numbered w (m + group_count t) f back.1)))
  fine_numbered w n (AbsentRepeater e) (item f h) = item tt (fine_numbered w n e h)
  fine_numbered w n (AbsentStopper e) (item f h) = item tt (fine_numbered w n e h)
  fine_numbered w n (AbsentExpression a e) (item i h) =
      let both = every_append_parts (nodes a) (nodes e) h in
      item tt (every_append (fine_numbered w n a both.0) (fine_numbered w (n + group_count a) e both.1))
  fine_numbered w n e h = h

  each_fine_numbered : (w : Within) (n : ℕ) (es : Trees) → Every IsFine (nodes_of_each es) →
      Every IsFine (nodes_of_each (each_numbered w n es))
  each_fine_numbered w n none h = no_item
  each_fine_numbered w n (more e es) h =
      let both = every_append_parts (nodes e) (nodes_of_each es) h in
      every_append (fine_numbered w n e both.0) (each_fine_numbered w (n + group_count e) es both.1)

pub numbered_is_fine : (n : ℕ) (e : Tree) → ((x : Tree) → Contains (nodes e) x → IsFine x) → (x : Tree) →
    Contains (nodes (numbered n e)) x → IsFine x
unfolding numbered
numbered_is_fine n e h x c =
    every_contained x (fine_numbered NoLook n e (every_weaker h (every_contains (nodes e)))) c
