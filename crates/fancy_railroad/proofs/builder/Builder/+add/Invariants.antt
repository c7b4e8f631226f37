use Rattle.std.proofs.Common.{length}
use Rattle.fancy_expr.specs.Exprs.{exprs}
use Rattle.fancy_railroad.proofs.builder.Builder.+add.Given as goal

abbrev pub decreases-add : goal.decreases-add
decreases-add l = length (exprs l.expr.now)
