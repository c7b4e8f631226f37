-- What the writer of tokens does.
use Rattle.std.specs.Prelude.{◌&&◌, ℕ, Bool, nat_lt}
use Rattle.fancy_meaning.specs.Places.{is_place}
use Rattle.fancy_highlight.specs.declared.writer.Writer.{Writer}

-- a place of the text that is further on
abbrev pub is_ahead : Writer → ℕ → Bool
is_ahead s end = nat_lt s.at end && is_place s.text.now end
