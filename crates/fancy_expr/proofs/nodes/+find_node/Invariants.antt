use Rattle.std.proofs.Common.{◌≡◌, false, take, length}
use Rattle.std.specs.List.{list_any}
use Rattle.fancy_expr.specs.Exprs.{below, exprs, exprs_of_each}
use Rattle.fancy_expr.specs.Questions.{asks}
use Rattle.fancy_expr.proofs.nodes.+find_node.Given as goal

abbrev pub decreases-find_node : goal.decreases-find_node
decreases-find_node l = length (exprs l.expr.now)

abbrev pub invariant-loop-i : goal.invariant-loop-i
invariant-loop-i l = list_any (asks l.question) (exprs_of_each (take l.i (below l.expr))) ≡ false
