use Rattle.std.proofs.Common.{◌≡◌, ◌++◌, replicate}
use Rattle.fancy_faults.proofs.leaves.push_span.Given as goal

abbrev pub invariant-loop-i : goal.invariant-loop-i
invariant-loop-i l = l.spans.items ≡ l.fn.spans.items ++ replicate l.i l.span
