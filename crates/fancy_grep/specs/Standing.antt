-- Where what is looked for stands in a text, and where a line does.
use Rattle.std.specs.Prelude.{◌≡◌, ◌≤◌, ◌<◌, ℕ, true, List, ◌++◌, drop, length}
use Rattle.fancy_literals.specs.Required.{Required, stands_at}
use Rattle.fancy_grep.specs.Lines.{Line}

-- it stands at no byte from the first on and before the other
abbrev pub StandsNowhere : Required → (text : List ℕ) → (from next : ℕ) → Type 0
StandsNowhere r text from next = (i : ℕ) → from ≤ i → i < next → i ≤ length text → stands_at r text i ≡ true → ⊥

-- the line stands in the text from the byte on where it is said to begin
pub record IsLineIn (text : List ℕ) (l : Line) : Type 0 where
  pub within : l.start ≤ length text
  pub after : List ℕ
  pub stands : drop l.start text ≡ l.text ++ after
