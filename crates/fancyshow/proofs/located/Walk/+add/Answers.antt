use Rattle.std.proofs.Common.{arith}
use Rattle.fancy_expr.proofs.Exprs.{child_smaller}
use Rattle.fancyshow.proofs.located.Walk.+add.Goals as goal

pub add-requires : goal.add-requires
add-requires t c = (omega (arith, child_smaller c.args.expr.now c.part.result.now c.loop-i.i (omega arith) c.part.ensures), tt)
