-- The lexer as a machine of modes: which tokens a text has.
use Rattle.std.specs.Prelude.{ℕ, ◌+◌, ◌*◌, Bool, true, false, ◌&&◌, List, [], ◌∷◌, ◌++◌, if◌then◌else◌, ◌==◌, nat_lt, codes, chars, encode_utf8}
use lib.Utf8.{scalar}
use Rattle.std.specs.Char.{len_utf8, digit_value}
use Rattle.std.specs.Str.{bytes_eq}
use Rattle.fancy_notation.specs.declared.lexer.Mode.{Mode}
use Rattle.fancy_notation.specs.declared.lexer.Mode.TheVariants.{Outside, Inside, Escaped, Coded, Digits, Spoiled}
use Rattle.fancy_notation.specs.Tokens.{Token, Placed, Opened, Closed, Quoted, Word, Broken}

-- what is known when a text has been read up to some byte
pub record Lexing : Type 0 where
  pub mode : Mode
  -- an `i` stands before the text between quotes
  pub folded : Bool
  -- where the token begins that is being read
  pub start : ℕ
  -- what has been read of it
  pub text : List ℕ

-- what one character does: how it goes on, and the tokens that it ends
pub record Step : Type 0 where
  pub next : Lexing
  pub tokens : List Placed

abbrev pub placed : ℕ → Token → Placed
placed at t = record { at = at; token = t }

abbrev pub turned : Lexing → Mode → Step
turned s m = record { next = record s { mode = m }; tokens = [] }

abbrev pub pushed : Lexing → Placed → Step
pushed s p = record { next = s; tokens = p ∷ [] }

abbrev pub spoiled : Lexing → Step
spoiled s = record { next = record s { mode = Spoiled }; tokens = placed s.start Broken ∷ [] }

-- a character of a text between quotes
abbrev pub with_char : Lexing → ℕ → Step
with_char s c = record { next = record s { mode = Inside; text = s.text ++ encode_utf8 c }; tokens = [] }

-- ends the word that is being read, if there is one
abbrev pub word_ended : Lexing → Step
word_ended s =
    if bytes_eq s.text []
    then (record { next = s; tokens = [] })
    else (record { next = record s { text = [] }; tokens = placed s.start (Word s.text) ∷ [] })

abbrev pub with_token : Step → Placed → Step
with_token s p = record s { tokens = s.tokens ++ p ∷ [] }

abbrev pub text_begun : Lexing → Bool → ℕ → Lexing
text_begun s folded start = record s { mode = Inside; folded = folded; start = start; text = [] }

-- the word `i` directly before a quote belongs to the text
abbrev pub quote : Lexing → ℕ → Step
quote s at =
    if bytes_eq s.text (codes "i")
    then (record { next = text_begun s true s.start; tokens = [] })
    else (record { next = text_begun s false at; tokens = (word_ended s).tokens })

abbrev pub with_letter : Lexing → ℕ → ℕ → Step
with_letter s at c =
    record {
      next = record s { start = if bytes_eq s.text [] then at else s.start; text = s.text ++ encode_utf8 c };
      tokens = [];
    }

abbrev pub step_outside : Lexing → ℕ → ℕ → Step
step_outside s at c =
    if c == 32 then word_ended s
    else if c == 40 then with_token (word_ended s) (placed at Opened)
    else if c == 41 then with_token (word_ended s) (placed at Closed)
    else if c == 34 then quote s at
    else with_letter s at c

abbrev pub text_ended : Lexing → Step
text_ended s =
    record {
      next = record s { mode = Outside; text = [] };
      tokens = placed s.start (Quoted s.folded s.text) ∷ [];
    }

abbrev pub step_inside : Lexing → ℕ → Step
step_inside s c =
    if c == 34 then text_ended s
    else if c == 92 then turned s Escaped
    else with_char s c

-- after a backslash: a quote, a backslash, `n`, `r` or `u`
abbrev pub step_escaped : Lexing → ℕ → Step
step_escaped s c =
    if c == 34 then with_char s 34
    else if c == 92 then with_char s 92
    else if c == 110 then with_char s 10
    else if c == 114 then with_char s 13
    else if c == 117 then turned s Coded
    else spoiled s

-- a brace after `\u`
abbrev pub step_coded : Lexing → ℕ → Step
step_coded s c = if c == 123 then turned s (Digits 0 0) else spoiled s

-- a brace after so many digits that write this code
abbrev pub step_code : Lexing → ℕ → ℕ → Step
step_code s count code = if nat_lt 0 count && scalar code then with_char s code else spoiled s

-- one to six digits write a character's number; past 0x10_FFFF there is none
abbrev pub step_digits : Lexing → ℕ → ℕ → ℕ → Step
step_digits s c count code =
    if c == 125
    then step_code s count code
    else (if nat_lt count 6 && nat_lt code 0x1_1000 && nat_lt (digit_value c) 16
    then turned s (Digits (count + 1) (code * 16 + digit_value c))
    else spoiled s)

abbrev pub step_in : Mode → Lexing → ℕ → ℕ → Step
step_in Outside s at c = step_outside s at c
step_in Inside s at c = step_inside s c
step_in Escaped s at c = step_escaped s c
step_in Coded s at c = step_coded s c
step_in (Digits count code) s at c = step_digits s c count code
step_in Spoiled s at c = record { next = s; tokens = [] }

abbrev pub step : Lexing → ℕ → ℕ → Step
step s at c = step_in s.mode s at c

abbrev pub ended_in : Mode → Lexing → Step
ended_in Outside s = word_ended s
ended_in Spoiled s = record { next = s; tokens = [] }
ended_in m s = spoiled s

-- where the text has ended
abbrev pub ended : Lexing → Step
ended s = ended_in s.mode s

-- the tokens that the characters from this byte on end
abbrev pub lexed : Lexing → ℕ → List ℕ → List Placed
lexed s at [] = (ended s).tokens
lexed s at (c ∷ cs) = (step s at c).tokens ++ lexed (step s at c).next (at + len_utf8 c) cs

abbrev pub at_start : Lexing
at_start = record { mode = Outside; folded = false; start = 0; text = [] }

unfoldable pub tokens_of : List ℕ → List Placed
tokens_of text = lexed at_start 0 (chars text)
