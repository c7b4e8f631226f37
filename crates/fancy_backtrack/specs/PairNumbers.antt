-- Which number a pair has among all pairs of a search.
use Rattle.std.specs.Prelude.{ℕ, ◌+◌, ◌-◌, ◌*◌, ◌^◌, ◌&&◌, List, [], ◌∷◌, Option, Some, None, if◌then◌else◌, length, nat_lt, nat_le}
use Rattle.std.specs.Option.{option_and_then}
use Rattle.fancy_backtrack.specs.declared.pair_numbers.PairNumbers.{PairNumbers}

-- the number, if it has 64 bits
abbrev pub in_word : ℕ → Option ℕ
in_word n = if nat_lt n (2 ^ 64) then Some n else None

-- the digit of an iteration, by how many were begun before it and the number of whether it has stayed
abbrev pub counter_digit : PairNumbers → ℕ → ℕ → Option ℕ
counter_digit b count stayed =
    let digit = stayed * b.counts + count + 1 in
    if (nat_lt count b.counts && nat_lt stayed b.stays) && (nat_lt digit (2 ^ 64) && nat_lt digit b.base)
    then Some digit else None

-- the number that has the iterations around as digits, by two numbers of each, the innermost last
abbrev pub counters_value : PairNumbers → List ℕ → Option ℕ
counters_value b [] = Some 0
counters_value b (c ∷ []) = None
counters_value b (c ∷ s ∷ around) =
    option_and_then
    (λ digit. option_and_then (λ n. in_word (n * b.base + digit)) (counters_value b around))
    (counter_digit b c s)

-- The place at which a pair is numbered: where the innermost loop would come to its end if each iteration that is left
-- took `step` bytes.
abbrev pub shifted : PairNumbers → ℕ → List ℕ → Option ℕ
shifted b place [] = Some place
shifted b place (c ∷ counters) = in_word ((b.counts - c) * b.step + place)

-- the number of a pair, where each place from `base` on has `width` numbers for each state
abbrev pub pair_value : PairNumbers → ℕ → List ℕ → Option ℕ
pair_value b base [] = None
pair_value b base (at ∷ []) = None
pair_value b base (at ∷ place ∷ counters) =
    if nat_le (length counters) 128 && nat_lt at b.states
    then option_and_then
    (λ around.
    if nat_lt around b.width && nat_le base place
    then option_and_then
    (λ place.
    let row = place * b.states + at in
    if nat_lt row (2 ^ 64) then in_word (row * b.width + around) else None)
    (shifted b (place - base) counters)
    else None)
    (counters_value b counters)
    else None
