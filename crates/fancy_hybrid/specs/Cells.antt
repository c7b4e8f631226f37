-- Groups by cells, each a position plus one, or 0 if it is not set.
use Rattle.std.specs.Prelude.{ℕ, zero, suc, ◌+◌, ◌*◌, ◌/◌, List, flat_map, length, get_or, Option, Some, None}
use Rattle.fancy_meaning.specs.Answer.{span_numbers}
use Rattle.fancy_meaning.specs.Places.{range_from}
use Rattle.fancy_agreement.specs.Captures.{pair}

abbrev pub position : ℕ → Option ℕ
position zero = None
position (suc i) = Some i

-- the start and the end of the group that has these two cells
abbrev pub numbers_at : List ℕ → ℕ → List ℕ
numbers_at cells i = span_numbers (pair (position (get_or cells (2 * i) 0)) (position (get_or cells (2 * i + 1) 0)))

-- those of so many groups, from the first cell on
abbrev pub numbers_from : List ℕ → ℕ → List ℕ
numbers_from cells n = flat_map (numbers_at cells) (range_from 0 n)

-- those of all
abbrev pub cell_numbers : List ℕ → List ℕ
cell_numbers cells = numbers_from cells (length cells / 2)
