-- The flags of a pattern: their letters, and the items that set them.
use Rattle.std.specs.Prelude.{ℕ, Bool, true, false, not, ◌&&◌, [], ◌∷◌, Option, Some, None, Ok, Err, if◌then◌else◌, ◌==◌}
use Rattle.fancy_tokens.specs.declared.error.ErrorKind.TheVariants.{UnknownFlag, NonUnicodeUnsupported, UnclosedOpenParen}
use Rattle.fancy_tokens.specs.declared.flags.Flags.{Flags}
use Rattle.fancy_pattern.specs.declared.flags.FlagsItem.{FlagsItem}
use Rattle.fancy_pattern.specs.declared.flags.Letters.{Letters}
use Rattle.fancy_pattern.specs.declared.flags.LetterStep.{LetterStep}
use Rattle.fancy_pattern.specs.declared.flags.LetterStep.TheVariants.{Goes, Ends, Fails}
use Rattle.fancy_pattern.specs.Texts.{Text, Read, fault_at}

-- i m s x R U u, set or cleared; no other letter is a flag
abbrev pub with_letter : Flags → ℕ → Bool → Option Flags
with_letter f letter on =
    if letter == 105 then Some (record f { casei = on })
    else if letter == 109 then Some (record f { multi_line = on })
    else if letter == 115 then Some (record f { dot_all = on })
    else if letter == 120 then Some (record f { ignore_whitespace = on })
    else if letter == 82 then Some (record f { crlf = on })
    else if letter == 85 then Some (record f { swap_greed = on })
    else if letter == 117 then Some (record f { unicode = on })
    else None

-- where the letters begin: one is wanted
abbrev pub at_first : Flags → Letters
at_first f = record { flags = f; on = true; wanted = true }

-- the item ends, and a group may follow
abbrev pub end_step : Letters → Bool → LetterStep
end_step l is_group =
    if l.wanted then Fails UnknownFlag else Ends (record { flags = l.flags; is_group = is_group })

-- one `-`, and a letter behind it
abbrev pub minus_step : Letters → LetterStep
minus_step l = if l.on then Goes (record { flags = l.flags; on = false; wanted = true }) else Fails UnknownFlag

abbrev pub flag_step : Letters → ℕ → LetterStep
flag_step l c =
    if c == 117 && not l.on then Fails NonUnicodeUnsupported
    else elim (with_letter l.flags c l.on) [
      | Some f ↦ Goes (record { flags = f; on = l.on; wanted = false })
      | None ↦ Fails UnknownFlag
    ]

-- what one character of a flags item does
abbrev pub letter_step : Letters → ℕ → LetterStep
letter_step l c =
    if c == 41 then end_step l false
    else if c == 58 then end_step l true
    else if c == 45 then minus_step l
    else flag_step l c

-- the letters up to the parenthesis or the colon that ends them
abbrev pub letters_at : Letters → Text → Read FlagsItem
letters_at l [] = Err (fault_at UnclosedOpenParen [])
letters_at l (c ∷ cs) =
    elim (letter_step l c) [
      | Goes next ↦ letters_at next cs
      | Ends found ↦ Ok (found, cs)
      | Fails kind ↦ Err (fault_at kind (c ∷ cs))
    ]
