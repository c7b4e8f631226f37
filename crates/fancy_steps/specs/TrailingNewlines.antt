-- From where on only newlines are left in a text.
use Rattle.std.specs.Prelude.{◌≡◌, ℕ, Bool, true, false, List, nat_le}
use Rattle.std.specs.Option.{ForSome}
use Rattle.fancy_meaning.specs.Assertions.{only_newlines_left}
use Rattle.fancy_steps.specs.declared.trailing_newlines.TrailingNewlines.{TrailingNewlines}

-- only newlines are left from there on, and from no place before it
abbrev pub StartsNewlines : List ℕ → (crlf : Bool) → ℕ → Type 0
StartsNewlines text crlf from = (i : ℕ) → only_newlines_left text i crlf ≡ nat_le from i

-- each one that was asked for
pub record AreTrailingNewlines (text : List ℕ) (t : TrailingNewlines) : Type 0 where
  pub lf : ForSome t.lf (StartsNewlines text false)
  pub crlf : ForSome t.crlf (StartsNewlines text true)
