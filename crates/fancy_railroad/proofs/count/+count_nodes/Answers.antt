use Rattle.std.proofs.Common.{arith}
use Rattle.fancy_expr.specs.Exprs.{below}
use Rattle.fancy_expr.proofs.Exprs.{child_smaller}
use Rattle.fancy_railroad.proofs.Counts.{count-taken, count-all}
use Rattle.fancy_railroad.proofs.count.+count_nodes.Goals as goal

pub count_nodes-requires : goal.count_nodes-requires
count_nodes-requires t c = (omega (arith, child_smaller c.args.expr.now c.part.result.now c.loop-i.i (omega arith) c.part.ensures), tt)

pub loop-i-preserved : goal.loop-i-preserved
loop-i-preserved t c = omega (arith, count-taken (below c.args.expr.now) c.loop-i.i c.part.result.now (omega arith) c.part.ensures)

pub returns : goal.returns
returns t c = omega (arith, count-all c.args.expr.now c.loop-i.i (omega arith))
