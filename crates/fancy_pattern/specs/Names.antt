-- The names of groups, and what names a group.
use Rattle.std.specs.Prelude.{ℕ, ◌+◌, ◌-◌, ◌^◌, ℤ, Bool, true, false, ◌&&◌, length, Option, Some, None, Result, Ok, Err, if◌then◌else◌, ◌==◌, nat_lt, nat_le}
use Rattle.std.specs.Char.{is_ascii_digit}
use Rattle.std.specs.List.{take_while}
use Rattle.fancy_tokens.specs.declared.error.ErrorKind.TheVariants.{InvalidGroupName, InvalidBackref}
use Rattle.fancy_tokens.specs.declared.error.Fault.{Fault}
use Rattle.fancy_tokens.specs.declared.tokens.Naming.{Naming}
use Rattle.fancy_tokens.specs.declared.tokens.Naming.TheVariants.{Backref, Exists, Call}
use Rattle.fancy_pattern.specs.Texts.{Text, Read, fault_at, ◌>>=◌, uncons, skip_run, is_name_start, is_name_char}
use Rattle.fancy_pattern.specs.Numbers.{number_of, level_of}
use Rattle.fancy_tokens.specs.Tokens.{Target, Name, Number, Nowhere, Reference}

-- a letter or `_`, then letters, digits and `_`
unfoldable pub name_at : Text → Read Text
name_at text =
    elim (uncons text) [
      | None ↦ Err (fault_at InvalidGroupName text)
      | Some p ↦ if is_name_start p.0 then Ok (take_while is_name_char text, skip_run is_name_char text)
          else Err (fault_at InvalidGroupName text)
    ]

-- one or more digits, whose number fits
unfoldable pub number_at : Text → Read ℕ
number_at text =
    if length (take_while is_ascii_digit text) == 0 then Err (fault_at InvalidGroupName text)
    else elim (number_of 10 (take_while is_ascii_digit text)) [
      | None ↦ Err (fault_at InvalidBackref text)
      | Some n ↦ Ok (n, skip_run is_ascii_digit text)
    ]

-- the nth group back from where so many were opened: the last of them is the first
abbrev pub back : ℕ → ℕ → Target
back opened n = if nat_lt 0 n && nat_le n opened then Number (opened - n + 1) else Nowhere

-- the nth group that is opened from there on
abbrev pub onward : ℕ → ℕ → Target
onward opened n = if n == 0 then Nowhere else if nat_lt (opened + n) (2 ^ 64) then Number (opened + n) else Nowhere

-- `-N`, `+N`, `N` or a name
unfoldable pub target_at : ℕ → Text → Read Target
target_at opened text =
    elim (uncons text) [
      | None ↦ name_at text >>= λ name. Ok (Name name.0, name.1)
      | Some p ↦ if p.0 == 45 then (number_at p.1 >>= λ n. Ok (back opened n.0, n.1))
          else if p.0 == 43 then (number_at p.1 >>= λ n. Ok (onward opened n.0, n.1))
          else if is_ascii_digit p.0 then (number_at text >>= λ n. Ok (Number n.0, n.1))
          else (name_at text >>= λ name. Ok (Name name.0, name.1))
    ]

unfoldable pub signed_level_at : Bool → Text → Read (Option ℤ)
signed_level_at negative text =
    if length (take_while is_ascii_digit text) == 0 then Err (fault_at InvalidGroupName text)
    else elim (level_of negative (take_while is_ascii_digit text)) [
      | None ↦ Err (fault_at InvalidBackref text)
      | Some l ↦ Ok (Some l, skip_run is_ascii_digit text)
    ]

-- `-N`, `+N` or nothing
unfoldable pub level_at : Text → Read (Option ℤ)
level_at text =
    elim (uncons text) [
      | None ↦ Ok (None, text)
      | Some p ↦ if p.0 == 45 then signed_level_at true p.1
          else if p.0 == 43 then signed_level_at false p.1
          else Ok (None, text)
    ]

-- a call has no level
abbrev pub level_for : Naming → Text → Read (Option ℤ)
level_for Call text = Ok (None, text)
level_for (Backref casei) text = level_at text
level_for Exists text = level_at text

-- the character that closes what names a group
unfoldable pub closed_at : ℕ → Text → Result Text Fault
closed_at close text =
    elim (uncons text) [
      | None ↦ Err (fault_at InvalidGroupName text)
      | Some p ↦ if p.0 == close then Ok p.1 else Err (fault_at InvalidGroupName text)
    ]

-- what names a group, its level, and what closes it
unfoldable pub reference_at : ℕ → Naming → ℕ → Text → Read Reference
reference_at opened naming close text = do
  target ← target_at opened text
  level ← level_for naming target.1
  rest ← closed_at close level.1
  Ok (record { naming = naming; target = target.0; level = level.0; left = length text }, rest)

-- braces stand around a back reference alone
abbrev pub closing_brace : Naming → Option ℕ
closing_brace (Backref casei) = Some 125
closing_brace Exists = None
closing_brace Call = None

-- `<>`, quotes and braces
abbrev pub closing_of : Naming → ℕ → Option ℕ
closing_of naming opener =
    if opener == 60 then Some 62
    else if opener == 39 then Some 39
    else if opener == 123 then closing_brace naming
    else None

unfoldable pub delimited_at : ℕ → Naming → Text → Read Reference
delimited_at opened naming text =
    elim (uncons text) [
      | None ↦ Err (fault_at InvalidGroupName text)
      | Some p ↦ elim (closing_of naming p.0) [
        | Some close ↦ reference_at opened naming close p.1
        | None ↦ Err (fault_at InvalidGroupName text)
      ]
    ]

-- a name alone, and what closes it
unfoldable pub named_at : Naming → ℕ → Text → Read Reference
named_at naming close text = do
  name ← name_at text
  rest ← closed_at close name.1
  Ok (record { naming = naming; target = Name name.0; level = None; left = length text }, rest)
