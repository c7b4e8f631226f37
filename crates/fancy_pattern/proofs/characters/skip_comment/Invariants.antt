use Rattle.std.proofs.Common.{◌≡◌, ◌≤◌, length}
use Rattle.fancy_pattern.specs.Texts.{comment_end}
use Rattle.fancy_pattern.proofs.characters.skip_comment.Given as goal

-- the end is looked for in what is left
abbrev pub invariant-loop-c : goal.invariant-loop-c
invariant-loop-c l = (comment_end l.escaped l.rest ≡ comment_end l.fn.escaped l.fn.text) × (length l.rest ≤ length l.fn.text)

abbrev pub decreases-loop-c : goal.decreases-loop-c
decreases-loop-c l = length l.rest
