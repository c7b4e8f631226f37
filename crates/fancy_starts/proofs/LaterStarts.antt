-- The places from a later one on are the last of those from an earlier one.
use Rattle.std.proofs.Common.{◌≡◌, ℕ, zero, suc, ◌+◌, ◌-◌, ◌<◌, ◌≤◌, ⊎_elim, List, ◌∷◌, ◌++◌, length, filter, sym, ap, ap₂, ◌∙◌, arith, append-nil}
use Rattle.std.proofs.lemmas.Bool.{cases_lt}
use Rattle.std.proofs.lemmas.List.Elements.{filter-append}
use Rattle.fancy_meaning.specs.Places.{range_from, is_place, places_from}
use Rattle.fancy_laws.proofs.Every.{Every, no_item, item, every_filter}

range_split : (n m i : ℕ) → range_from i (n + m) ≡ range_from i n ++ range_from (i + n) m
range_split zero m i =
    let start : i ≡ i + 0 = omega arith in
    let count : 0 + m ≡ m = omega arith in
    ap₂ range_from start count
range_split (suc n) m i =
    let more : suc n + m ≡ suc (n + m) = omega arith in
    let on : suc i + n ≡ i + suc n = omega arith in
    ap (range_from i) more ∙ ap (λ l. i ∷ l) (range_split n m (suc i) ∙ ap (λ k. range_from (suc i) n ++ range_from k m) on)

below : (later n i : ℕ) → i + n ≤ later → Every (λ j. j < later) (range_from i n)
below later zero i le = no_item
below later (suc n) i le = item (omega (arith, le)) (below later n (suc i) (omega (arith, le)))

-- the places before a later one, and those from it on
pub record Before (text : List ℕ) (pos later : ℕ) : Type 0 where
  pub starts : List ℕ
  pub all : places_from text pos ≡ starts ++ places_from text later
  pub are_before : Every (λ i. i < later) starts

pub places_before : (text : List ℕ) (pos later : ℕ) → pos ≤ later → Before text pos later
unfolding places_from
places_before text pos later le = ⊎_elim
    (λ (within : later < suc (length text)).
    let n : ℕ = later - pos in
    let m : ℕ = suc (length text) - later in
    let count : suc (length text) - pos ≡ n + m = omega (arith, le, within) in
    let on : pos + n ≡ later = omega (arith, le) in
    record {
      starts = filter (is_place text) (range_from pos n);
      all =
          ap (filter (is_place text)) (ap (range_from pos) count ∙ range_split n m pos ∙ ap (λ k. range_from pos n ++ range_from k m) on)
          ∙ filter-append (is_place text) (range_from pos n) (range_from later m);
      are_before = every_filter (is_place text) (λ j lt e. lt) (below later n pos (omega (arith, le)));
    })
    (λ (past : suc (length text) ≤ later).
    let none : suc (length text) - later ≡ 0 = omega (arith, past) in
    record {
      starts = places_from text pos;
      all =
          sym (ap (λ n. places_from text pos ++ filter (is_place text) (range_from later n)) none
          ∙ append-nil (places_from text pos));
      are_before =
          every_filter (is_place text) (λ j lt e. lt)
          (below later (suc (length text) - pos) pos (omega (arith, past, le)));
    })
    (cases_lt later (suc (length text)))
