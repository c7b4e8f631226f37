-- The groups of a numbered tree have the numbers from 1 on, each once.
use Rattle.std.proofs.Common.{◌≡◌, ◌≢◌, ⊎_elim, ℕ, zero, suc, ◌+◌, ◌-◌, ◌<◌, ◌≤◌, ◌==◌, List, [], ◌∷◌, map, filter_map, sum_by, Contains, Option, Some, None, refl, sym, ap, ap₂, ◌∙◌, subst, arith, eq-eqb, ne_eqb}
use Rattle.std.proofs.lemmas.Bool.{cond-true, cond-false}
use Rattle.std.proofs.lemmas.Bool.Decides.{eqb_tells}
use Rattle.std.proofs.lemmas.Option.{same_Some, none-some}
use Rattle.std.proofs.lemmas.List.Sums.{sum_by-cons}
use Rattle.std.specs.List.{cons_option}
use Rattle.fancy_meaning.specs.Tree.{Tree, Group}
use Rattle.fancy_meaning.specs.Nodes.{nodes, as_group, groups, group_count, target}
use Rattle.fancy_meaning.specs.OpenCalls.{Depths, opened, call_depth, targets, free_calls}
use Rattle.fancy_meaning.specs.Places.{range_from}
use Rattle.fancy_meaning.specs.Numbering.{numbered}
use Rattle.fancy_laws.proofs.Every.{Every, no_item, item, every_contained, every_weaker}
use Rattle.fancy_laws.proofs.NodesBelow.{first_contained, later_contained, group_of_target}
use Rattle.fancy_laws.proofs.Numbering.{group_numbers, numbered_has_as_many_groups}

-- ---- the range

InRange : ℕ → ℕ → ℕ → Type 0
InRange i n g = (i ≤ g) × (g < i + n)

each_in_range : (i n : ℕ) → Every (λ g. (i ≤ g) × (g < i + n)) (range_from i n)
each_in_range i zero = no_item
each_in_range i (suc n) =
    item (omega arith, omega arith) (every_weaker (λ g r. (omega (arith, r.0), omega (arith, r.1))) (each_in_range (suc i) n))

-- a group's number is among those of the groups
each_number : (es : List Tree) →
    Every (λ x. (h : ℕ × Tree) → as_group x ≡ Some h → Contains (map (λ k. k.0) (filter_map as_group es)) h.0) es
each_number [] = no_item
each_number (e ∷ es) = go (as_group e) refl (each_number es)
  where
    go : (o : Option (ℕ × Tree)) → as_group e ≡ o →
        Every (λ x. (h : ℕ × Tree) → as_group x ≡ Some h → Contains (map (λ k. k.0) (filter_map as_group es)) h.0) es → Every
        (λ x. (h : ℕ × Tree) → as_group x ≡ Some h → Contains (map (λ k. k.0) (cons_option o (filter_map as_group es))) h.0)
        (e ∷ es)
    go None is k = item (λ h same. absurd (none-some h (sym is ∙ same))) k
    go (Some g) is k =
        let rest = map (λ x. x.0) (filter_map as_group es) in
        item (λ h same. subst (λ x. Contains (g.0 ∷ rest) x.0) (same_Some g h (sym is ∙ same)) (first_contained g.0 rest))
        (every_weaker (λ x f h same. later_contained g.0 rest h.0 (f h same)) k)

module _ (tree : Tree) where
  abbrev whole : Tree
  whole = numbered 1 tree

  numbers : map (λ h. h.0) (groups whole) ≡ range_from 1 (group_count whole)
  numbers = group_numbers 1 tree ∙ ap (range_from 1) (sym (numbered_has_as_many_groups 1 tree))

  pub number_of_group : (g : ℕ) (e : Tree) → Contains (nodes whole) (Group g e) → (0 < g) × (g ≤ group_count whole)
  unfolding groups
  number_of_group g e c =
      let at = every_contained (Group g e) (each_number (nodes whole)) c (g, e) refl in
      let r = every_contained g (each_in_range 1 (group_count whole)) (subst (λ l. Contains l g) numbers at) in
      (r.0, omega (arith, r.1))

  pub number_of_target : (g : ℕ) (e : Tree) → target whole (suc g) ≡ Some e → suc g ≤ group_count whole
  number_of_target g e t = (number_of_group (suc g) e (group_of_target whole g e t)).1

  -- ---- calls that may be opened

  same_sum : (f f' : ℕ → ℕ) (k i n : ℕ) → ((j : ℕ) → j ≢ k → f' j ≡ f j) → k < i →
      sum_by f (range_from i n) ≡ sum_by f' (range_from i n)
  same_sum f f' k i zero h lt = refl
  same_sum f f' k i (suc n) h lt =
      sum_by-cons f i (range_from (suc i) n)
      ∙ ap₂ (λ x y. x + y) (sym (h i (λ e. omega arith))) (same_sum f f' k (suc i) n h (omega arith))
      ∙ sym (sum_by-cons f' i (range_from (suc i) n))

  one_less : (f f' : ℕ → ℕ) (k i n : ℕ) → ((j : ℕ) → j ≢ k → f' j ≡ f j) → f k ≡ suc (f' k) → i ≤ k → k < i + n →
      sum_by f (range_from i n) ≡ suc (sum_by f' (range_from i n))
  one_less f f' k i zero h e le lt = absurd (omega arith)
  one_less f f' k i (suc n) h e le lt =
      let a = sum_by-cons f i (range_from (suc i) n) in
      let b = sum_by-cons f' i (range_from (suc i) n) in
      ⊎_elim {C = sum_by f (range_from i (suc n)) ≡ suc (sum_by f' (range_from i (suc n)))}
      (λ s.
      let c = same_sum f f' k (suc i) n h (omega (arith, s.1)) in
      let d = ap f s.1 in let d' = ap f' s.1 in omega (arith, a, b, c, d, d', e))
      (λ s.
      let ne = s.1 in
      let c = one_less f f' k (suc i) n h e (omega (arith, le, ne)) (omega (arith, lt)) in
      let d = h i ne in omega (arith, a, b, c, d))
      (eqb_tells i k)

  targets_are : targets whole ≡ range_from 0 (suc (group_count whole))
  targets_are = ap (λ l. 0 ∷ l) numbers

  pub opening_takes_one : (g : ℕ) (depths : Depths) → g ≤ group_count whole → depths g < call_depth →
      free_calls whole depths ≡ suc (free_calls whole (opened g depths))
  unfolding free_calls
  opening_takes_one g depths le lt =
      ap (sum_by (λ h. call_depth - depths h)) targets_are
      ∙ one_less (λ h. call_depth - depths h) (λ h. call_depth - opened g depths h) g 0 (suc (group_count whole))
      (λ j ne. ap (λ n. call_depth - n) (cond-false (j == g) _ _ (ne_eqb j g ne)))
      (let e : opened g depths g ≡ suc (depths g) = cond-true (g == g) _ _ (eq-eqb g g refl) in omega (arith, e, lt))
      (omega arith) (omega arith)
      ∙ ap suc (sym (ap (sum_by (λ h. call_depth - opened g depths h)) targets_are))
