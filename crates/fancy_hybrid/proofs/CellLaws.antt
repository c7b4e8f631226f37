-- Numbers of groups by cells.
use Rattle.std.proofs.Common.{◌≡◌, ℕ, zero, suc, ◌+◌, ◌*◌, ◌/◌, ◌<◌, ◌≤◌, ◌==◌, List, [], ◌∷◌, ◌++◌, length, flat_map, get_or, Option, Some, None, refl, sym, ap, ap₂, ◌∙◌, arith, add-one, append-nil, append_assoc, ne_eqb}
use Rattle.std.specs.Option.{option_or}
use Rattle.std.proofs.lemmas.Bool.{cond-false}
use Rattle.std.proofs.lemmas.List.FromFn.{get_or-map-range_with_len}
use Rattle.std.proofs.lemmas.Grind.{flat_map-append}
use Rattle.regex_hir.specs.Find.{Match, last_write, slot_of}
use Rattle.regex_hir.proofs.OptionLemmas.{option_or-None}
use Rattle.regex_vm.specs.Found.{cell, group_cells}
use Rattle.fancy_meaning.specs.Answer.{span_numbers}
use Rattle.fancy_meaning.specs.Places.{range_from}
use Rattle.fancy_laws.proofs.Characters.{range_split}
use Rattle.fancy_agreement.specs.Captures.{numbers_of, pair}
use Rattle.fancy_hybrid.specs.Cells.{cell_numbers, numbers_at, numbers_from, position}

-- one more group
one_more : (cells : List ℕ) (n a b : ℕ) → a ∷ b ∷ [] ≡ numbers_at cells n → numbers_from cells (n + 1) ≡ numbers_from cells n ++ a ∷ b ∷ []
one_more cells n a b is =
    ap (flat_map (numbers_at cells)) (range_split n 1 (n + 1) 0 n refl (omega arith))
    ∙ flat_map-append (numbers_at cells) (range_from 0 n) (n ∷ [])
    ∙ ap (λ l. numbers_from cells n ++ l) (append-nil (numbers_at cells n) ∙ sym is)

-- the same where its two numbers are written one after the other
pub pushed : (from end n a b : ℕ) (cells old mid new : List ℕ) → old ≡ from ∷ end ∷ numbers_from cells n → mid ≡ old ++ a ∷ [] →
    new ≡ mid ++ b ∷ [] → a ∷ b ∷ [] ≡ numbers_at cells n → new ≡ from ∷ end ∷ numbers_from cells (n + 1)
pushed from end n a b cells old mid new is first second at =
    second ∙ ap (λ l. l ++ b ∷ []) (first ∙ ap (λ l. l ++ a ∷ []) is)
    ∙ ap (λ l. from ∷ end ∷ l) (append_assoc (numbers_from cells n) (a ∷ []) (b ∷ []) ∙ sym (one_more cells n a b at))

-- ---- the cells of a match

position_cell : (o : Option ℕ) → position (cell o) ≡ o
position_cell None = refl
position_cell (Some i) = ap position (add-one i)

module _ (m : Match) where
  later : (k : ℕ) → 2 ≤ k → slot_of m k ≡ last_write m.trace.writes k
  unfolding slot_of
  later k le =
      ap₂ (λ a b. option_or (option_or (last_write m.trace.writes k) a) b)
      (cond-false (1 == k) (Some m.trace.end) None (ne_eqb 1 k (omega (arith, le))))
      (cond-false (0 == k) (Some m.start) None (ne_eqb 0 k (omega (arith, le))))
      ∙ option_or-None (option_or (last_write m.trace.writes k) None) ∙ option_or-None (last_write m.trace.writes k)

  cell_at : (n k : ℕ) → k < n → position (get_or (group_cells m n) k 0) ≡ slot_of m (k + 2)
  unfolding group_cells
  cell_at n k lt =
      ap position (get_or-map-range_with_len (λ i. cell (last_write m.trace.writes (i + 2))) 0 n k k 0 lt (omega arith))
      ∙ position_cell (last_write m.trace.writes (k + 2)) ∙ sym (later (k + 2) (omega arith))

  abbrev numbers_in : ℕ → List ℕ
  numbers_in g = span_numbers (pair (slot_of m (2 * g)) (slot_of m (2 * g + 1)))

  group_at : (n i : ℕ) → i < n → numbers_at (group_cells m (2 * n)) i ≡ numbers_in (suc i)
  group_at n i lt =
      let first : 2 * i + 2 ≡ 2 * suc i = omega arith in
      let second : 2 * i + 1 + 2 ≡ 2 * suc i + 1 = omega arith in
      ap₂ (λ a b. span_numbers (pair a b))
      (cell_at (2 * n) (2 * i) (omega (arith, lt)) ∙ ap (slot_of m) first)
      (cell_at (2 * n) (2 * i + 1) (omega (arith, lt)) ∙ ap (slot_of m) second)

  shifted : (f : ℕ → List ℕ) (i n : ℕ) → ((k : ℕ) → i ≤ k → k < i + n → f k ≡ numbers_in (suc k)) →
      flat_map f (range_from i n) ≡ flat_map numbers_in (range_from (suc i) n)
  shifted f i zero same = refl
  shifted f i (suc n) same =
      ap₂ ◌++◌ (same i (omega arith) (omega arith))
      (shifted f (suc i) n (λ k le lt. same k (omega (arith, le)) (omega (arith, lt))))

  -- the cells of the groups give the numbers of the match
  pub numbers_of_cells : (n : ℕ) (cells : List ℕ) → cells ≡ group_cells m (length cells) → length cells ≡ 2 * n →
      m.start ∷ m.trace.end ∷ cell_numbers cells ≡ numbers_of n m
  numbers_of_cells n cells are long =
      let half : length cells / 2 ≡ n = omega (arith, long) in
      let whole : cells ≡ group_cells m (2 * n) = are ∙ ap (group_cells m) long in
      ap (λ l. m.start ∷ m.trace.end ∷ l)
      (ap (numbers_from cells) half ∙ ap (λ l. numbers_from l n) whole
      ∙ shifted (numbers_at (group_cells m (2 * n))) 0 n (λ k le lt. group_at n k (omega (arith, lt))))
