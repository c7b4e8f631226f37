-- Where only newlines are left.
use Rattle.std.proofs.Common.{◌≡◌, ℕ, zero, suc, ◌+◌, ◌-◌, ◌<◌, ◌≤◌, Bool, true, false, ◌&&◌, List, length, slice_index, refl, sym, ap, ◌∙◌, arith, ⊎_elim}
use Rattle.std.specs.Prelude.{nat_le}
use Rattle.std.proofs.lemmas.Bool.{cases_lt, le-leb}
use Rattle.std.proofs.lemmas.Bool.Decides.{nat_tests}
use Rattle.fancy_characters.proofs.LookLaws.{is_line_byte, none_left, one_more}
use Rattle.fancy_composed.proofs.Parts.{both_right}
use Rattle.fancy_meaning.specs.Assertions.{only_newlines_left}
use Rattle.fancy_steps.specs.TrailingNewlines.{StartsNewlines}

and_false : (a : Bool) → (a && false) ≡ false
and_false true = refl
and_false false = refl

before : (from i : ℕ) → i < from → nat_le from i ≡ false
before from i lt = grind (arith, nat_tests, lt)

module _ (text : List ℕ) (crlf : Bool) where
  -- where they alone are left, so it is further on
  stays : (i k : ℕ) → only_newlines_left text i crlf ≡ true → only_newlines_left text (i + k) crlf ≡ true
  stays i zero h = let e : i + 0 ≡ i = omega arith in ap (λ n. only_newlines_left text n crlf) e ∙ h
  stays i (suc k) h =
      ⊎_elim {C = only_newlines_left text (i + suc k) crlf ≡ true}
      (λ lt.
      let e : i + suc k ≡ (i + 1) + k = omega arith in
      ap (λ n. only_newlines_left text n crlf) e
      ∙ stays (i + 1) k (both_right (is_line_byte crlf (slice_index text i)) (only_newlines_left text (i + 1) crlf) (sym (one_more text crlf i lt) ∙ h)))
      (λ ge. none_left text crlf (i + suc k) (omega (arith, ge)))
      (cases_lt i (length text))

  -- where another byte is left, so it is before
  falls : (i k : ℕ) → i + k < length text → only_newlines_left text (i + k) crlf ≡ false → only_newlines_left text i crlf ≡ false
  falls i zero lt h = let e : i ≡ i + 0 = omega arith in ap (λ n. only_newlines_left text n crlf) e ∙ h
  falls i (suc k) lt h =
      let e : (i + 1) + k ≡ i + suc k = omega arith in
      one_more text crlf i (omega (arith, lt))
      ∙ ap (λ b. is_line_byte crlf (slice_index text i) && b)
      (falls (i + 1) k (omega (arith, lt)) (ap (λ n. only_newlines_left text n crlf) e ∙ h))
      ∙ and_false (is_line_byte crlf (slice_index text i))

  pub newlines_here : (from : ℕ) → from ≤ length text → only_newlines_left text from crlf ≡ true →
      (0 < from → only_newlines_left text (from - 1) crlf ≡ false) → StartsNewlines text crlf from
  newlines_here from inside all other i =
      ⊎_elim {C = only_newlines_left text i crlf ≡ nat_le from i}
      (λ lt.
      let e : i + (from - 1 - i) ≡ from - 1 = omega (arith, lt) in
      falls i (from - 1 - i) (omega (arith, lt, inside)) (ap (λ n. only_newlines_left text n crlf) e ∙ other (omega (arith, lt)))
      ∙ sym (before from i lt))
      (λ ge.
      let e : i ≡ from + (i - from) = omega (arith, ge) in
      ap (λ n. only_newlines_left text n crlf) e ∙ stays from (i - from) all ∙ sym (le-leb from i ge))
      (cases_lt i from)

  pub newlines_at_start : only_newlines_left text 0 crlf ≡ true → StartsNewlines text crlf 0
  newlines_at_start all i =
      let e : i ≡ 0 + i = omega arith in
      ap (λ n. only_newlines_left text n crlf) e ∙ stays 0 i all ∙ sym (le-leb 0 i (omega arith))
