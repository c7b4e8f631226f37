use Rattle.std.proofs.Common.{◌≡◌, ◌≤◌, length}
use Rattle.fancy_pattern.specs.Flags.{letters_at, at_first}
use Rattle.fancy_pattern.proofs.flags.flags_at.Given as goal

-- the letters go on with what is left
abbrev pub invariant-loop-c : goal.invariant-loop-c
invariant-loop-c l = (letters_at l.letters l.rest ≡ letters_at (at_first l.fn.flags) l.fn.text) × (length l.rest ≤ length l.fn.text)

abbrev pub decreases-loop-c : goal.decreases-loop-c
decreases-loop-c l = length l.rest
