-- What is kept of a text that is written piece by piece.
use Rattle.std.specs.Prelude.{◌≡◌, ◌-◌, ℕ, List, ◌++◌, take, length, min}
use Rattle.fancy_meaning.specs.Numbers.{usize_max}
use Rattle.fancy_replace.specs.declared.output.BoundedText.{BoundedText}

abbrev pub kept_of : BoundedText → List ℕ
kept_of t = t.kept.items

abbrev pub room_of : BoundedText → ℕ
room_of t = t.room

abbrev pub count_of : BoundedText → ℕ
count_of t = t.count

-- With room for so many bytes it has this text: it keeps as many of its bytes, and counts all of them, both as far as there
-- are numbers.
pub record Holds (t : BoundedText) (most : ℕ) (text : List ℕ) : Type 0 where
  pub room : room_of t ≡ min most (usize_max - 1)
  pub kept : kept_of t ≡ take (room_of t) text
  pub count : count_of t ≡ min usize_max (length text)

-- by an output that holds a text as said, this text was appended
abbrev pub Grows : {S : Type 0} → (S → ℕ → List ℕ → Type 0) → S → List ℕ → S → Type 0
Grows holds s more t = (room : ℕ) (text : List ℕ) → holds s room text → holds t room (text ++ more)
