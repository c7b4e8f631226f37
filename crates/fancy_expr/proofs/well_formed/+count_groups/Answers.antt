use Rattle.std.proofs.Common.{arith}
use Rattle.fancy_expr.specs.Exprs.{below}
use Rattle.fancy_expr.proofs.Exprs.{child_smaller}
use Rattle.fancy_expr.proofs.Groups.{total-taken, total-all}
use Rattle.fancy_expr.proofs.well_formed.+count_groups.Goals as goal

pub count_groups-requires : goal.count_groups-requires
count_groups-requires t c = (omega (arith, child_smaller c.args.expr.now c.part.result.now c.loop-i.i (omega arith) c.part.ensures), tt)

pub loop-i-preserved : goal.loop-i-preserved
loop-i-preserved t c = omega (arith, total-taken (below c.args.expr.now) c.loop-i.i c.part.result.now (omega arith) c.part.ensures)

pub returns : goal.returns
returns t c = omega (arith, total-all c.args.expr.now c.loop-i.i (omega arith))
