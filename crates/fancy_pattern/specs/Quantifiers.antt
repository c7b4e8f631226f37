-- The counts of a quantifier.
use Rattle.std.specs.Prelude.{ℕ, ◌-◌, ◌^◌, Bool, not, ◌&&◌, length, codes, Option, Some, None, option_and_then, Result, Ok, Err, if◌then◌else◌, ◌==◌, nat_lt, nat_le}
use Rattle.std.specs.Option.{option_map}
use Rattle.std.specs.Char.{is_ascii_digit}
use Rattle.std.specs.List.{take_while}
use Rattle.fancy_tokens.specs.declared.error.ErrorKind.{ErrorKind}
use Rattle.fancy_tokens.specs.declared.error.ErrorKind.TheVariants.{InvalidRepeat}
use Rattle.fancy_pattern.specs.declared.quantifiers.Written as code
use Rattle.fancy_tokens.specs.declared.tokens.Quantifier.{Quantifier}
use Rattle.fancy_tokens.specs.declared.tokens.Quantifier.TheVariants.{Counts}
use Rattle.fancy_pattern.specs.Texts.{Text, uncons, skip_run, skip_word, is_blank}
use Rattle.fancy_pattern.specs.Numbers.{number_of}

-- the digits of the counts, and those behind the comma where there is one
pub record Written : Type 0 where
  pub lo : Text
  pub hi : Option Text

abbrev pub written_of : code.Written → Written
written_of w = record { lo = w.lo.now; hi = option_map (λ t. t.now) w.hi }

-- under `x` blanks may stand between
abbrev pub skip_blanks : Bool → Text → Text
skip_blanks ignore_whitespace text = if ignore_whitespace then skip_run is_blank text else text

-- digits, none or more, with blanks around them
unfoldable pub digits_at : Bool → Text → Text × Text
digits_at x text =
    (take_while is_ascii_digit (skip_blanks x text), skip_blanks x (skip_run is_ascii_digit (skip_blanks x text)))

abbrev pub is_empty : Text → Bool
is_empty text = length text == 0

-- `,N}`, or where there is a first number `,}`
unfoldable pub upper_at : Text → Bool → Text → Option (Written × Text)
upper_at lo x text =
    option_and_then
    (λ after. if is_empty lo && is_empty (digits_at x text).0 then None
    else Some (record { lo = lo; hi = Some (digits_at x text).0 }, after))
    (skip_word (codes "}") (digits_at x text).1)

-- `N}`, `N,}`, `,N}` or `N,N}`
unfoldable pub written_at : Bool → Text → Option (Written × Text)
written_at x text =
    option_and_then
    (λ p. if p.0 == 125 && not (is_empty (digits_at x text).0)
    then Some (record { lo = (digits_at x text).0; hi = None }, p.1)
    else if p.0 == 44 then upper_at (digits_at x text).0 x p.1
    else None)
    (uncons (digits_at x text).1)

-- a number of iterations is below the largest number
abbrev pub count_of : Text → Option ℕ
count_of digits = option_and_then (λ n. if nat_lt n (2 ^ 64 - 1) then Some n else None) (number_of 10 digits)

abbrev pub lo_of : Text → Option ℕ
lo_of digits = if is_empty digits then Some 0 else count_of digits

-- the largest number means that there is no bound
abbrev pub hi_of : ℕ → Option Text → Option ℕ
hi_of lo None = Some lo
hi_of lo (Some digits) =
    if is_empty digits then Some (2 ^ 64 - 1)
    else option_and_then (λ hi. if nat_le lo hi then Some hi else None) (count_of digits)

unfoldable pub counts_of : Written → Option Quantifier
counts_of w = option_and_then (λ lo. option_and_then (λ hi. Some (Counts lo hi)) (hi_of lo w.hi)) (lo_of w.lo)

unfoldable pub counts_at : Bool → Text → Option (Result Quantifier ErrorKind × Text)
counts_at x text =
    option_and_then
    (λ w. elim (counts_of w.0) [
      | Some q ↦ Some (Ok q, w.1)
      | None ↦ Some (Err InvalidRepeat, w.1)
    ])
    (written_at x text)
