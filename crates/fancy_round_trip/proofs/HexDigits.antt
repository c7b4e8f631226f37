-- The digits of a character's number are read as that number.
use Rattle.std.proofs.Common.{◌≡◌, ℕ, ◌+◌, ◌-◌, ◌/◌, ◌%◌, ◌^◌, ◌<◌, ◌≤◌, ⊎_elim, Bool, true, false, not, ◌&&◌, List, [], ◌∷◌, ◌++◌, length, drop, Option, Some, None, Ok, Err, if◌then◌else◌, ◌==◌, nat_lt, refl, ap, ◌∙◌, arith}
use Rattle.std.specs.Prelude.{option_and_then}
use lib.Utf8.{scalar}
use Rattle.std.proofs.Math.Utf8.{scalar_cases}
use Rattle.std.specs.Char.{digit_value}
use Rattle.std.specs.List.{take_while}
use Rattle.std.specs.Str.Parse.{digits_value}
use Rattle.std.proofs.lemmas.Bool.{lt-ltb, le-ltb, ltb-true, ltb-false, ne_eqb}
use Rattle.std.proofs.lemmas.List.Sums.{take_while-cons}
use Rattle.std.proofs.Math.Seq.{drop-append_seam}
use Rattle.fancy_expr.specs.Each.{Each}
use Rattle.fancy_tokens.specs.declared.error.ErrorKind.TheVariants.{InvalidHex, InvalidCodepointValue}
use Rattle.fancy_pattern.specs.Texts.{Text, Read, fault_at, uncons, skip_run}
use Rattle.fancy_pattern.specs.Numbers.{number_of}
use Rattle.fancy_pattern.specs.Escapes.{is_hex, char_of, braced_hex_at}
use Rattle.fancy_tokens.specs.PatternViews.{hex_digit, hex_digits}
use Rattle.fancy_pattern.proofs.EscapedTokens.{not_if}
use Rattle.fancy_round_trip.proofs.Steps.{is_if}

-- ---- one digit

digit_of : (d : ℕ) → d < 16 → digit_value (hex_digit d) ≡ d
digit_of d h = by_size (nat_lt d 10) refl
  where
    by_size : (b : Bool) → nat_lt d 10 ≡ b → digit_value (hex_digit d) ≡ d
    by_size true e =
        let low : d < 10 = ltb-true d 10 e in
        ap digit_value (is_if (nat_lt d 10) (48 + d) (55 + d) e)
        ∙ not_if (nat_lt (48 + d) 48) _ _ (le-ltb (48 + d) 48 (omega arith))
        ∙ is_if (nat_lt (48 + d) 58) _ _ (lt-ltb (48 + d) 58 (omega (arith, low)))
        ∙ omega arith
    by_size false e =
        let high : 10 ≤ d = ltb-false d 10 e in
        ap digit_value (not_if (nat_lt d 10) (48 + d) (55 + d) e)
        ∙ not_if (nat_lt (55 + d) 48) _ _ (le-ltb (55 + d) 48 (omega arith))
        ∙ not_if (nat_lt (55 + d) 58) _ _ (le-ltb (55 + d) 58 (omega (arith, high)))
        ∙ not_if (nat_lt (55 + d) 65) _ _ (le-ltb (55 + d) 65 (omega (arith, high)))
        ∙ is_if (nat_lt (55 + d) 91) _ _ (lt-ltb (55 + d) 91 (omega (arith, h)))
        ∙ omega arith

-- the digits of a number
record AreDigits (n : ℕ) (ds : List ℕ) : Type 0 where
  some : 0 < length ds
  short : length ds ≤ 8
  each : Each (λ d. is_hex d ≡ true) ds
  value : digits_value 16 ds ≡ n

is_one : (d : ℕ) → d < 16 → is_hex (hex_digit d) ≡ true
is_one d h = let e = digit_of d h in lt-ltb (digit_value (hex_digit d)) 16 (omega (arith, e, h))

remainder : (n : ℕ) → n % 16 < 16
remainder n = omega arith

-- ---- all digits

abbrev digit_at : ℕ → ℕ
digit_at m = hex_digit (m % 16)

value_of : (m : ℕ) → digit_value (digit_at m) ≡ m % 16
value_of m = digit_of (m % 16) (remainder m)

there : (m : ℕ) → is_hex (digit_at m) ≡ true
there m = is_one (m % 16) (remainder m)

one_digit : (n : ℕ) → n < 0x10 → AreDigits n (digit_at n ∷ [])
one_digit n h =
    record {
      some = omega arith;
      short = omega arith;
      each = (there n, tt);
      value = let a = value_of n in omega (arith, a, h);
    }

two_digits : (n : ℕ) → n < 0x100 → AreDigits n (digit_at (n / 0x10) ∷ digit_at n ∷ [])
two_digits n h =
    record {
      some = omega arith;
      short = omega arith;
      each = (there (n / 0x10), (there n, tt));
      value = let a = value_of n in let b = value_of (n / 0x10) in omega (arith, a, b, h);
    }

next_power : (n : ℕ) → n / 0x100 ≡ n / 0x10 / 0x10
next_power n = omega arith

third_power : (n : ℕ) → n / 0x1000 ≡ n / 0x100 / 0x10
third_power n = omega arith

fourth_power : (n : ℕ) → n / 0x1_0000 ≡ n / 0x1000 / 0x10
fourth_power n = omega arith

fifth_power : (n : ℕ) → n / 0x10_0000 ≡ n / 0x1_0000 / 0x10
fifth_power n = omega arith

three_digits : (n : ℕ) → n < 0x1000 → AreDigits n (digit_at (n / 0x100) ∷ digit_at (n / 0x10) ∷ digit_at n ∷ [])
three_digits n h =
    record {
      some = omega arith;
      short = omega arith;
      each = (there (n / 0x100), (there (n / 0x10), (there n, tt)));
      value =
          let a = value_of n in
          let b = value_of (n / 0x10) in
          let c = value_of (n / 0x100) in
          let p = next_power n in
          omega (arith, a, b, c, p, h);
    }

four_digits : (n : ℕ) → n < 0x1_0000 → AreDigits n (digit_at (n / 0x1000) ∷ digit_at (n / 0x100) ∷ digit_at (n / 0x10) ∷ digit_at n ∷ [])
four_digits n h =
    record {
      some = omega arith;
      short = omega arith;
      each = (there (n / 0x1000), (there (n / 0x100), (there (n / 0x10), (there n, tt))));
      value =
          let a = value_of n in
          let b = value_of (n / 0x10) in
          let c = value_of (n / 0x100) in
          let d = value_of (n / 0x1000) in
          let p = next_power n in
          let q = third_power n in
          omega (arith, a, b, c, d, p, q, h);
    }

five_digits : (n : ℕ) → n < 0x10_0000 →
    AreDigits n (digit_at (n / 0x1_0000) ∷ digit_at (n / 0x1000) ∷ digit_at (n / 0x100) ∷ digit_at (n / 0x10) ∷ digit_at n ∷ [])
five_digits n h =
    record {
      some = omega arith;
      short = omega arith;
      each = (there (n / 0x1_0000), (there (n / 0x1000), (there (n / 0x100), (there (n / 0x10), (there n, tt)))));
      value =
          let a = value_of n in
          let b = value_of (n / 0x10) in
          let c = value_of (n / 0x100) in
          let d = value_of (n / 0x1000) in
          let e = value_of (n / 0x1_0000) in
          let p = next_power n in
          let q = third_power n in
          let r = fourth_power n in
          omega (arith, a, b, c, d, e, p, q, r, h);
    }

six_digits : (n : ℕ) → n < 0x100_0000 →
    AreDigits n (digit_at (n / 0x10_0000) ∷ digit_at (n / 0x1_0000) ∷ digit_at (n / 0x1000) ∷ digit_at (n / 0x100) ∷ digit_at (n / 0x10) ∷ digit_at n ∷ [])
six_digits n h =
    record {
      some = omega arith;
      short = omega arith;
      each = (there (n / 0x10_0000), (there (n / 0x1_0000), (there (n / 0x1000), (there (n / 0x100), (there (n / 0x10), (there n, tt))))));
      value =
          let a = value_of n in
          let b = value_of (n / 0x10) in
          let c = value_of (n / 0x100) in
          let d = value_of (n / 0x1000) in
          let e = value_of (n / 0x1_0000) in
          let f = value_of (n / 0x10_0000) in
          let p = next_power n in
          let q = third_power n in
          let r = fourth_power n in
          let s = fifth_power n in
          omega (arith, a, b, c, d, e, f, p, q, r, s, h);
    }

abbrev six : ℕ → List ℕ
six n =
    digit_at (n / 0x10_0000)
    ∷ digit_at (n / 0x1_0000)
    ∷ digit_at (n / 0x1000)
    ∷ digit_at (n / 0x100)
    ∷ digit_at (n / 0x10)
    ∷ digit_at n
    ∷ []

digits_of : (n : ℕ) → n < 0x100_0000 → AreDigits n (hex_digits n)
digits_of n h = by_one (nat_lt n 0x10) refl
  where
    by_five : (b : Bool) → nat_lt n 0x10_0000 ≡ b → AreDigits n (drop (6 - (if b then 5 else 6)) (six n))
    by_five true e = five_digits n (ltb-true n 0x10_0000 e)
    by_five false e = six_digits n h

    by_four : (b : Bool) → nat_lt n 0x1_0000 ≡ b → AreDigits n (drop (6 - (if b then 4 else if nat_lt n 0x10_0000 then 5 else 6)) (six n))
    by_four true e = four_digits n (ltb-true n 0x1_0000 e)
    by_four false e = by_five (nat_lt n 0x10_0000) refl

    by_three : (b : Bool) → nat_lt n 0x1000 ≡ b →
        AreDigits n (drop (6 - (if b then 3 else if nat_lt n 0x1_0000 then 4 else if nat_lt n 0x10_0000 then 5 else 6)) (six n))
    by_three true e = three_digits n (ltb-true n 0x1000 e)
    by_three false e = by_four (nat_lt n 0x1_0000) refl

    by_two : (b : Bool) → nat_lt n 0x100 ≡ b →
        AreDigits n
        (drop (6 - (if b then 2 else if nat_lt n 0x1000 then 3 else if nat_lt n 0x1_0000 then 4 else if nat_lt n 0x10_0000 then 5 else 6)) (six n))
    by_two true e = two_digits n (ltb-true n 0x100 e)
    by_two false e = by_three (nat_lt n 0x1000) refl

    by_one : (b : Bool) → nat_lt n 0x10 ≡ b →
        AreDigits n
        (drop (6 - (if b then 1 else if nat_lt n 0x100 then 2 else if nat_lt n 0x1000 then 3 else if nat_lt n 0x1_0000 then 4 else if nat_lt n 0x10_0000 then 5 else 6)) (six n))
    by_one true e = one_digit n (ltb-true n 0x10 e)
    by_one false e = by_two (nat_lt n 0x100) refl

-- ---- the number in braces

run : (ds : List ℕ) (c : ℕ) (rest : Text) → Each (λ d. is_hex d ≡ true) ds → is_hex c ≡ false → take_while is_hex (ds ++ c ∷ rest) ≡ ds
run [] c rest h stop = take_while-cons is_hex c rest ∙ not_if (is_hex c) _ _ stop
run (d ∷ ds) c rest h stop =
    take_while-cons is_hex d (ds ++ c ∷ rest) ∙ is_if (is_hex d) _ _ h.0 ∙ ap (λ l. d ∷ l) (run ds c rest h.1 stop)

abbrev braced_from : Text → Text → Text → Read ℕ
braced_from text a b =
    if nat_lt 8 (length a) then Err (fault_at InvalidHex (drop 8 text))
    else elim (uncons b) [
      | None ↦ Err (fault_at InvalidHex b)
      | Some p ↦ if p.0 == 125 && not (length a == 0)
          then elim (char_of a) [ Some c ↦ Ok (c, p.1) | None ↦ Err (fault_at InvalidCodepointValue text) ]
          else Err (fault_at InvalidHex b)
    ]

braced_parts : (text : Text) → braced_hex_at text ≡ braced_from text (take_while is_hex text) (skip_run is_hex text)
unfolding braced_hex_at
braced_parts text = refl

char_is : (c : ℕ) (ds : Text) → scalar c ≡ true → c < 2 ^ 64 → digits_value 16 ds ≡ c → char_of ds ≡ Some c
unfolding number_of
char_is c ds is small value =
    ap (λ k. option_and_then (λ n. if scalar n then Some n else None) (if nat_lt k (2 ^ 64) then Some k else None)) value
    ∙ ap {A = Bool} {B = Option ℕ} (λ b. option_and_then (λ n. if scalar n then Some n else None) (if b then Some c else None)) (lt-ltb c (2 ^ 64) small)
    ∙ ap {A = Bool} {B = Option ℕ} (λ b. if b then Some c else None) is

scalar_small : (c : ℕ) → scalar c ≡ true → c < 0x11_0000
scalar_small c is = ⊎_elim (λ h. omega (arith, h)) (λ h. let k = h.1 in omega (arith, k)) (scalar_cases c is)

-- its digits in braces are read again
pub code_again : (c : ℕ) (rest : Text) → scalar c ≡ true → braced_hex_at (hex_digits c ++ 125 ∷ rest) ≡ Ok (c, rest)
code_again c rest is =
    let small = scalar_small c is in
    let d = digits_of c (omega (arith, small)) in
    let ds = hex_digits c in
    let text = ds ++ 125 ∷ rest in
    let taken = run ds 125 rest d.each refl in
    let left : skip_run is_hex text ≡ 125 ∷ rest = ap (λ l. drop (length l) text) taken ∙ drop-append_seam ds (125 ∷ rest) in
    let some = d.some in
    let short = d.short in
    braced_parts text
    ∙ ap (λ a. braced_from text a (skip_run is_hex text)) taken
    ∙ ap (braced_from text ds) left
    ∙ not_if (nat_lt 8 (length ds)) _ _ (le-ltb 8 (length ds) short)
    ∙ ap {A = Bool} {B = Read ℕ}
    (λ b. if not b then elim (char_of ds) [ Some k ↦ Ok (k, rest) | None ↦ Err (fault_at InvalidCodepointValue text) ]
    else Err (fault_at InvalidHex (125 ∷ rest))) (ne_eqb (length ds) 0 (λ z. omega (arith, z, some)))
    ∙ ap {A = Option ℕ} {B = Read ℕ} (λ o. elim o [ Some k ↦ Ok (k, rest) | None ↦ Err (fault_at InvalidCodepointValue text) ])
    (char_is c ds is (omega (arith, small)) d.value)
