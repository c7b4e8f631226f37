use Rattle.std.proofs.Common.{◌≡◌, ◌++◌, length, drop}
use Rattle.fancy_expr.specs.Exprs.{below, exprs, exprs_of_each}
use Rattle.fancy_faults.specs.Known.{exprs_of}
use Rattle.fancy_faults.proofs.finder.+push_nodes.Given as goal

abbrev pub decreases-push_nodes : goal.decreases-push_nodes
decreases-push_nodes l = length (exprs l.expr.now)

-- what is left completes the whole
abbrev pub invariant-loop-i : goal.invariant-loop-i
invariant-loop-i l = exprs_of l.nodes.items ++ exprs_of_each (drop l.i (below l.expr)) ≡ exprs_of l.fn.nodes.items ++ exprs l.expr
