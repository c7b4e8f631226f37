use Rattle.std.proofs.Common.{◌≡◌, vec_len}
use Rattle.fancy_code.specs.Drafts.{draft_of, with_jumps}
use Rattle.fancy_compile.proofs.alternations.patch_jumps.Given as goal

abbrev pub invariant-loop-jump : goal.invariant-loop-jump
invariant-loop-jump l = with_jumps l.left.items l.end (draft_of l.writer) ≡ with_jumps l.fn.jumps.items l.end (draft_of l.fn.writer)

abbrev pub decreases-loop-jump : goal.decreases-loop-jump
decreases-loop-jump l = vec_len l.left
