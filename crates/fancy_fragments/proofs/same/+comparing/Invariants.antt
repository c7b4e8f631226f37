use Rattle.std.proofs.Common.{◌≡◌, ◌+◌, ◌*◌, map, take, length}
use Rattle.fancy_expr.specs.Exprs.{below, exprs}
use Rattle.fancy_expr.specs.Views.{tree_of}
use Rattle.fancy_fragments.proofs.same.+comparing.Given as goal

abbrev pub decreases-differs : goal.decreases-differs
decreases-differs l = 2 * length (exprs l.expr.now) + 1

abbrev pub decreases-parts_differ : goal.decreases-parts_differ
decreases-parts_differ l = 2 * length (exprs l.expr.now)

abbrev pub invariant-parts_differ-loop-i : goal.invariant-parts_differ-loop-i
invariant-parts_differ-loop-i l = map tree_of (take l.i (below l.expr)) ≡ map tree_of (take l.i (below l.other))
