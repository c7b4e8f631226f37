use Rattle.std.proofs.Common.{length}
use Rattle.fancy_expr.specs.Exprs.{exprs}
use Rattle.fancyshow.proofs.marks.Marked.+push_node.Given as goal

abbrev pub decreases-push_node : goal.decreases-push_node
decreases-push_node l = length (exprs l.expr.now)
