use Rattle.std.proofs.Common.{◌≡◌, ◌+◌, take, length}
use Rattle.fancy_expr.specs.Exprs.{below, exprs, exprs_of_each}
use Rattle.fancy_analysis.proofs.limit.+left_after.Given as goal

abbrev pub decreases-left_after : goal.decreases-left_after
decreases-left_after l = length (exprs l.expr.now)

abbrev pub invariant-loop-i : goal.invariant-loop-i
invariant-loop-i l = l.rest + (1 + length (exprs_of_each (take l.i (below l.expr)))) ≡ l.fn.left
