-- The lines of a text.
use Rattle.std.specs.Prelude.{ℕ, suc, ◌+◌, Bool, ◌==◌, List, [], ◌∷◌, length, if◌then◌else◌}
use Rattle.fancy_grep.specs.declared.lines.Line as code
use Rattle.fancy_grep.specs.declared.lines.Lines as code_lines

abbrev pub is_newline : ℕ → Bool
is_newline b = b == 10

-- the byte stands first in the first line; where there is no line it is one
abbrev pub begun_by : ℕ → List (List ℕ) → List (List ℕ)
begun_by b [] = (b ∷ []) ∷ []
begun_by b (line ∷ lines) = (b ∷ line) ∷ lines

-- The lines of a text, each without the "\n" that ends it. The last one may have none; an empty text has no line.
unfoldable pub lines : List ℕ → List (List ℕ)
lines [] = []
lines (b ∷ text) = if is_newline b then [] ∷ lines text else begun_by b (lines text)

-- a line with its number, and the byte of the text where it begins
pub record Line : Type 0 where
  pub number : ℕ
  pub start : ℕ
  pub text : List ℕ

-- the lines from this number and this byte on
unfoldable pub numbered : ℕ → ℕ → List (List ℕ) → List Line
numbered number start [] = []
numbered number start (line ∷ lines) =
    record { number = number; start = start; text = line } ∷ numbered (suc number) (start + length line + 1) lines

-- the lines of a text, numbered from 1
abbrev pub lines_of : List ℕ → List Line
lines_of text = numbered 1 0 (lines text)

abbrev pub line_of : code.Line → Line
line_of l = record { number = l.number; start = l.start; text = l.text.now }

-- the lines that are left
abbrev pub lines_left : code_lines.Lines → List Line
lines_left s = numbered s.number s.start (lines s.rest.now)
