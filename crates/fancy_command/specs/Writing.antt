-- A line on a stream that takes all of it, or only a part from its start.
use Rattle.std.specs.Prelude.{ℕ, ◌<◌, Bool, true, false, List, length, take, Option}
use Rattle.std.specs.Io.KnownBytes.{Appends}

-- From what the stream held to what it holds: the whole line was written, or a write failed, and then only a part of
-- it.
pub data Writes (old new : Option (List ℕ)) (line : List ℕ) : Bool → Type 0 where
  whole : Appends old new line → Writes old new line true
  part : (count : ℕ) → count < length line → Appends old new (take count line) → Writes old new line false
