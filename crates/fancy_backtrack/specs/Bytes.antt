-- How many bytes what a search keeps holds: each entry by its size, and no room that is kept spare.
use Rattle.std.specs.Prelude.{◌+◌, ◌*◌, ◌^◌, ◌-◌, ℕ, min, length}
use Rattle.fancy_backtrack.specs.declared.backtrack_stack.BacktrackStack.{BacktrackStack}
use Rattle.fancy_backtrack.specs.declared.trail.Trail.{Trail}
use Rattle.fancy_backtrack.specs.declared.failed.Failed.{Failed}
use Rattle.fancy_backtrack.specs.declared.memo.Memo.{Memo}

-- a number of bytes of the code, which stays at the greatest number of its type
abbrev pub saturated : ℕ → ℕ
saturated n = min (2 ^ 64 - 1) n

-- each run of choices that the stack has held at one time
abbrev pub stack_bytes : BacktrackStack → ℕ
stack_bytes s = 56 * length s.runs.items

abbrev pub trail_bytes : Trail → ℕ
trail_bytes t = 40 * length t.entries.items

-- each hashed word, and the lists
abbrev pub failed_bytes : Failed → ℕ
failed_bytes f = 16 * length f.words.entries + f.list_bytes

abbrev pub bytes_of : Memo → ℕ
bytes_of m = saturated (stack_bytes m.frames + trail_bytes m.trail + failed_bytes m.failed)
