use Rattle.std.proofs.Common.{◌≡◌, suc, take, length}
use Rattle.fancy_meaning.specs.Sizes.{saturated}
use Rattle.fancy_expr.specs.Exprs.{below, exprs, exprs_of_each}
use Rattle.fancy_railroad.proofs.count.+count_nodes.Given as goal

abbrev pub decreases-count_nodes : goal.decreases-count_nodes
decreases-count_nodes l = length (exprs l.expr.now)

abbrev pub invariant-loop-i : goal.invariant-loop-i
invariant-loop-i l = l.count ≡ saturated (suc (length (exprs_of_each (take l.i (below l.expr)))))
