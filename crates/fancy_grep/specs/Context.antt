-- The lines that are shown: those that are selected, and so many before and after each.
use Rattle.std.specs.Prelude.{◌≡◌, ℕ, suc, ◌+◌, ◌≤◌, ◌<◌, Bool, false, ◌&&◌, ◌||◌, ◌==◌, nat_le, if◌then◌else◌, List, [], ◌∷◌, ◌++◌, map, filter, Option, IfSome}
use Rattle.std.specs.Option.{option_map_or}
use Rattle.std.specs.List.{list_any}
use Rattle.fancy_grep.specs.Lines.{Line, line_of}
use Rattle.fancy_grep.specs.declared.context.Context.{Context}
use Rattle.fancy_grep.specs.declared.context.Shown as code
use Rattle.fancy_grep.specs.declared.context.Walk.{Walk}
use Rattle.fancy_grep.specs.declared.lines.Line as code_line

-- the numbers of lines
abbrev pub numbers_of : List code_line.Line → List ℕ
numbers_of lines = map (λ l. l.number) lines

-- each is greater than the one before, and the first is at least this
abbrev pub AreRising : ℕ → List ℕ → Type 0
AreRising least [] = Unit {0}
AreRising least (n ∷ ns) = (least ≤ n) × AreRising (suc n) ns

-- the number is one of these
abbrev pub is_among : List ℕ → ℕ → Bool
is_among numbers n = list_any (λ s. s == n) numbers

-- one of these lies at most so far behind the number, or before it
abbrev pub is_near : Context → List ℕ → ℕ → Bool
is_near context numbers n = list_any (λ s. nat_le s (n + context.before) && nat_le n (s + context.after)) numbers

-- the number is at most this, or near one of these
abbrev pub is_shown : Context → ℕ → List ℕ → ℕ → Bool
is_shown context owed numbers n = nat_le n owed || is_near context numbers n

-- Of the lines those with a number up to the one that is owed, and those that are near a selected one, in order, each with
-- whether it is selected; these are the numbers of the selected ones.
unfoldable pub shown : Context → ℕ → List ℕ → List Line → List (Line × Bool)
shown context owed numbers lines =
    map (λ l. (l, is_among numbers l.number)) (filter (λ l. is_shown context owed numbers l.number) lines)

abbrev pub shown_of : code.Shown → Line × Bool
shown_of s = (line_of s.line, s.is_selected)

-- ---- a walk over the lines in order

-- the last selected line that was passed lies at most so far before the number
abbrev pub is_past : Context → ℕ → Option ℕ → Bool
is_past context n last = option_map_or (λ s. nat_le n (s + context.after)) last false

-- the next selected line lies at most so far behind the number
abbrev pub is_ahead : Context → ℕ → List ℕ → Bool
is_ahead context n [] = false
is_ahead context n (s ∷ ss) = nat_le s (n + context.before)

-- the numbers but the first, where that is this one
abbrev pub past : ℕ → List ℕ → List ℕ
past n [] = []
past n (s ∷ ss) = if s == n then ss else s ∷ ss

-- Where the walk stands among all selected lines: those below the next number are passed, and what is known of the last
-- of them tells whether a number from there on is near one that was passed.
pub record Stands (all : List ℕ) (next : ℕ) (last : Option ℕ) (left : List ℕ) : Type 0 where
  pub passed : List ℕ
  pub split : all ≡ passed ++ left
  pub low : IfSome last (λ s. s < next)
  pub near : (context : Context) (n : ℕ) → next ≤ suc n → is_near context passed n ≡ is_past context n last
  pub among : (n : ℕ) → next ≤ n → is_among passed n ≡ false
  pub ahead : AreRising next left

abbrev pub IsAt : List ℕ → ℕ → Walk → Type 0
IsAt all next w = Stands all next w.last (numbers_of w.left.now)
