-- The largest number of the machine.
use Rattle.std.specs.Prelude.{ℕ, ◌-◌, ◌^◌}

-- the largest `usize`: as a number of an answer or of a slot it is not set, and as a greatest size or count it is no
-- bound
abbrev pub usize_max : ℕ
usize_max = 2 ^ 64 - 1
