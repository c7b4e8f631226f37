-- A number is of one pair.
use Rattle.std.proofs.Common.{◌≡◌, ℕ, ◌+◌, ◌-◌, ◌*◌, ◌^◌, ◌<◌, ◌≤◌, Bool, true, false, ◌&&◌, if◌then◌else◌, List, [], ◌∷◌, Option, Some, None, length, nat_lt, nat_le, refl, sym, ap, ◌∙◌, arith}
use Rattle.std.proofs.lemmas.Bool.{and_parts, ltb-true, leb-true}
use Rattle.std.proofs.lemmas.Nat.{same_from_place}
use Rattle.regex_hir.proofs.AttemptLemmas.{option_and_then_some}
use Rattle.fancy_backtrack.specs.declared.pair_numbers.PairNumbers.{PairNumbers}
use Rattle.fancy_backtrack.specs.PairNumbers.{counter_digit, counters_value, pair_value, shifted}

if_some : {A : Type 0} (b : Bool) (x y : A) → (if b then Some x else None) ≡ Some y → (b ≡ true) × (x ≡ y)
if_some true x y h = (refl, cc)
if_some false x y h = cc

if_then : {A : Type 0} (b : Bool) (o : Option A) (y : A) → (if b then o else None) ≡ Some y → (b ≡ true) × (o ≡ Some y)
if_then true o y h = (refl, h)
if_then false o y h = cc

module _ (b : PairNumbers) where
  -- ---- one iteration

  record IsDigit (c s n : ℕ) : Type 0 where
    pub count : c < b.counts
    pub low : n < b.base
    pub is : s * b.counts + c + 1 ≡ n

  digit_is : (c s n : ℕ) → counter_digit b c s ≡ Some n → IsDigit c s n
  digit_is c s n h =
      let digit : ℕ = s * b.counts + c + 1 in
      let inside : Bool = nat_lt c b.counts && nat_lt s b.stays in
      let fits : Bool = nat_lt digit (2 ^ 64) && nat_lt digit b.base in
      let made = if_some (inside && fits) digit n h in
      let both = and_parts inside fits made.0 in
      let first = and_parts (nat_lt c b.counts) (nat_lt s b.stays) both.0 in
      let second = and_parts (nat_lt digit (2 ^ 64)) (nat_lt digit b.base) both.1 in
      let low = ltb-true digit b.base second.1 in
      record { count = ltb-true c b.counts first.0; low = omega (arith, low, made.1); is = made.1 }

  -- ---- the iterations around

  record IsValue (c s : ℕ) (around : List ℕ) (n : ℕ) : Type 0 where
    pub digit : ℕ
    pub rest : ℕ
    pub first : counter_digit b c s ≡ Some digit
    pub second : counters_value b around ≡ Some rest
    pub is : rest * b.base + digit ≡ n

  value_is : (c s : ℕ) (around : List ℕ) (n : ℕ) → counters_value b (c ∷ s ∷ around) ≡ Some n → IsValue c s around n
  value_is c s around n h =
      let (digit, first, h2) = option_and_then_some _ (counter_digit b c s) n h in
      let (rest, second, e) = option_and_then_some _ (counters_value b around) n h2 in
      let made = if_some (nat_lt (rest * b.base + digit) (2 ^ 64)) (rest * b.base + digit) n e in
      record { digit = digit; rest = rest; first = first; second = second; is = made.1 }

  value_some : (c s : ℕ) (around : List ℕ) (n : ℕ) → counters_value b (c ∷ s ∷ around) ≡ Some n → 0 < n
  value_some c s around n h =
      let x = value_is c s around n h in
      let d = digit_is c s x.digit x.first in
      omega (arith, x.is, d.is)

  one_value : (ts us : List ℕ) (n : ℕ) → counters_value b ts ≡ Some n → counters_value b us ≡ Some n → ts ≡ us
  one_value [] [] n h i = refl
  one_value [] (d ∷ []) n h i = cc
  one_value [] (d ∷ t ∷ us) n h i = let zero : 0 ≡ n = cc in absurd (omega (arith, zero, value_some d t us n i))
  one_value (c ∷ []) us n h i = cc
  one_value (c ∷ s ∷ ts) [] n h i = let zero : 0 ≡ n = cc in absurd (omega (arith, zero, value_some c s ts n h))
  one_value (c ∷ s ∷ ts) (d ∷ []) n h i = cc
  one_value (c ∷ s ∷ ts) (d ∷ t ∷ us) n h i =
      let x = value_is c s ts n h in
      let y = value_is d t us n i in
      let p = digit_is c s x.digit x.first in
      let q = digit_is d t y.digit y.first in
      let same = same_from_place x.rest x.digit y.rest y.digit b.base p.low q.low (x.is ∙ sym y.is) in
      let digits = same_from_place s c t d b.counts p.count q.count (omega (arith, p.is, q.is, same.1)) in
      let rest : ts ≡ us = one_value ts us x.rest x.second (y.second ∙ ap Some (sym same.0)) in
      let stayed : s ≡ t = digits.0 in
      let count : c ≡ d = digits.1 in
      cc

  -- ---- a pair

  record IsNumbered (base at place : ℕ) (counters : List ℕ) (n : ℕ) : Type 0 where
    pub around : ℕ
    pub are : counters_value b counters ≡ Some around
    pub low : at < b.states
    pub small : around < b.width
    pub past : base ≤ place
    pub at_place : ℕ
    pub shifts : shifted b (place - base) counters ≡ Some at_place
    pub is : (at_place * b.states + at) * b.width + around ≡ n

  numbered : (base at place : ℕ) (counters : List ℕ) (n : ℕ) →
      pair_value b base (at ∷ place ∷ counters) ≡ Some n → IsNumbered base at place counters n
  numbered base at place counters n h =
      let few : Bool = nat_le (length counters) 128 in
      let outer = if_then (few && nat_lt at b.states) _ n h in
      let state = and_parts few (nat_lt at b.states) outer.0 in
      let (around, are, e) = option_and_then_some _ (counters_value b counters) n outer.1 in
      let within : Bool = nat_lt around b.width && nat_le base place in
      let inner = if_then within _ n e in
      let both = and_parts (nat_lt around b.width) (nat_le base place) inner.0 in
      let (there, shifts, f) = option_and_then_some _ (shifted b (place - base) counters) n inner.1 in
      let row : ℕ = there * b.states + at in
      let last = if_then (nat_lt row (2 ^ 64)) _ n f in
      let made = if_some (nat_lt (row * b.width + around) (2 ^ 64)) (row * b.width + around) n last.1 in
      record {
        around = around;
        are = are;
        low = ltb-true at b.states state.1;
        small = ltb-true around b.width both.0;
        past = leb-true base place both.1;
        at_place = there;
        shifts = shifts;
        is = made.1;
      }

  -- places that are numbered alike, inside the same iterations, are one
  one_place : (ts : List ℕ) (p q n : ℕ) → shifted b p ts ≡ Some n → shifted b q ts ≡ Some n → p ≡ q
  one_place [] p q n h i = cc
  one_place (c ∷ ts) p q n h i =
      let x = if_some (nat_lt ((b.counts - c) * b.step + p) (2 ^ 64)) ((b.counts - c) * b.step + p) n h in
      let y = if_some (nat_lt ((b.counts - c) * b.step + q) (2 ^ 64)) ((b.counts - c) * b.step + q) n i in
      omega (arith, x.1, y.1)

  -- a number is of one pair
  pub one_numbered : (base : ℕ) (k m : List ℕ) (n : ℕ) → pair_value b base k ≡ Some n → pair_value b base m ≡ Some n → k ≡ m
  one_numbered base [] m n h i = cc
  one_numbered base (a ∷ []) m n h i = cc
  one_numbered base (a ∷ p ∷ ts) [] n h i = cc
  one_numbered base (a ∷ p ∷ ts) (c ∷ []) n h i = cc
  one_numbered base (a ∷ p ∷ ts) (c ∷ q ∷ us) n h i =
      let x = numbered base a p ts n h in
      let y = numbered base c q us n i in
      let rows = same_from_place (x.at_place * b.states + a) x.around (y.at_place * b.states + c) y.around b.width x.small y.small
      (x.is ∙ sym y.is) in
      let places = same_from_place x.at_place a y.at_place c b.states x.low y.low rows.0 in
      let counters : ts ≡ us = one_value ts us x.around x.are (y.are ∙ ap Some (sym rows.1)) in
      let there : shifted b (q - base) ts ≡ Some x.at_place =
      ap (shifted b (q - base)) counters ∙ y.shifts ∙ ap Some (sym places.0) in
      let place : p ≡ q = omega (arith, one_place ts (p - base) (q - base) x.at_place x.shifts there, x.past, y.past) in
      let state : a ≡ c = places.1 in
      cc
