use Rattle.std.proofs.Common.{length}
use Rattle.fancy_expr.specs.Exprs.{exprs}
use Rattle.fancyshow.proofs.located.Walk.+add.Given as goal

abbrev pub decreases-add : goal.decreases-add
decreases-add l = length (exprs l.expr.now)
