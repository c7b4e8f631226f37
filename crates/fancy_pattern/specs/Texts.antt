-- The words in which the characters of a pattern are read from the front.
use Rattle.std.specs.Prelude.{ℕ, Bool, false, not, ◌&&◌, ◌||◌, List, [], ◌∷◌, length, drop, Option, Some, None, Result, Ok, Err, if◌then◌else◌, ◌==◌, codes}
use Rattle.std.specs.Char.{is_ascii_digit, is_digit}
use Rattle.std.specs.List.{take_while}
use Rattle.unicode.specs.Binary.{is_alphabetic}
use Rattle.fancy_pattern.specs.declared.characters.Test.{Test}
use Rattle.fancy_pattern.specs.declared.characters.Test.TheVariants.{Digit, HexDigit, NameChar, Blank, InLine, InBraces}
use Rattle.fancy_tokens.specs.declared.error.Fault.{Fault}
use Rattle.fancy_tokens.specs.declared.error.ErrorKind.{ErrorKind}

-- the characters that are left to read
abbrev pub Text : Type 0
Text = List ℕ

-- what is read at the front of a text, and what follows it; or why it cannot be read
abbrev pub Read : Type 0 → Type 0
Read V = Result (V × Text) Fault

-- a fault at the front of what is left
abbrev pub fault_at : ErrorKind → Text → Fault
fault_at kind text = record { left = length text; kind = kind }

-- one step after another, where each may fail
infixl 10 ◌>>=◌
abbrev pub ◌>>=◌ : {A B : Type 0} → Result A Fault → (A → Result B Fault) → Result B Fault
(Ok x) >>= f = f x
(Err e) >>= f = Err e

-- the same result, by what is seen of its value
abbrev pub seen : {X Y : Type 0} → (X → Y) → Result X Fault → Result Y Fault
seen view (Ok x) = Ok (view x)
seen view (Err e) = Err e

abbrev pub uncons : Text → Option (ℕ × Text)
uncons [] = None
uncons (c ∷ cs) = Some (c, cs)

-- what follows a word at the front
abbrev pub skip_word : Text → Text → Option Text
skip_word [] text = Some text
skip_word (w ∷ ws) [] = None
skip_word (w ∷ ws) (c ∷ cs) = if c == w then skip_word ws cs else None

-- what follows the longest run at the front that passes the test
abbrev pub skip_run : (ℕ → Bool) → Text → Text
skip_run test text = drop (length (take_while test text)) text

abbrev pub is_blank : ℕ → Bool
is_blank c = c == 32 || c == 9 || c == 10 || c == 13

-- a letter or `_`, with which the name of a group begins
abbrev pub is_name_start : ℕ → Bool
is_name_start c = c == 95 || is_alphabetic c

abbrev pub is_name_char : ℕ → Bool
is_name_char c = c == 95 || is_ascii_digit c || is_alphabetic c

abbrev pub passes : Test → ℕ → Bool
passes Digit c = is_ascii_digit c
passes HexDigit c = is_digit c 16
passes NameChar c = is_name_char c
passes Blank c = is_blank c
passes InLine c = not (c == 10)
passes InBraces c = not (c == 125)

-- what follows the first `)` that no backslash precedes; the flag says whether one stands before the front
abbrev pub comment_end : Bool → Text → Option Text
comment_end escaped [] = None
comment_end escaped (c ∷ cs) = if c == 41 && not escaped then Some cs else comment_end (c == 92) cs

-- under `x` what follows a blank, or the rest of a line that begins with `#`
abbrev pub blank_at : Bool → Text → Option Text
blank_at ignore_whitespace [] = None
blank_at ignore_whitespace (c ∷ cs) =
    if not ignore_whitespace then None
    else if is_blank c then Some cs
    else if c == 35 then Some (skip_run (λ d. not (d == 10)) cs)
    else None

-- what follows the gap at the front, which is a comment, or one of those
abbrev pub gap_at : Bool → Text → Option Text
gap_at ignore_whitespace text =
    elim (skip_word (codes "(?#") text) [
      | Some after ↦ comment_end false after
      | None ↦ blank_at ignore_whitespace text
    ]

-- how many characters are left behind what the front has in common with a word
abbrev pub skip_common : Text → Text → ℕ
skip_common [] text = length text
skip_common (w ∷ ws) [] = 0
skip_common (w ∷ ws) (c ∷ cs) = if c == w then skip_common ws cs else length (c ∷ cs)
