use Rattle.std.proofs.Common.{arith}
use Rattle.fancy_expr.specs.Exprs.{below}
use Rattle.fancy_expr.proofs.Exprs.{child_smaller}
use Rattle.fancy_expr.proofs.Referred.{remains_own, remains_more, remains_done}
use Rattle.fancy_expr.proofs.references.+remove_referred.Goals as goal

pub remove_referred-requires : goal.remove_referred-requires
remove_referred-requires t c = (omega (arith, child_smaller c.args.expr.now c.part.result.now c.loop-i.i (omega arith) c.part.ensures), tt)

pub loop-i-init : goal.loop-i-init
loop-i-init t c = λ g. remains_own _ _ g c.args.expr.now (c.remove_own.ensures g)

pub loop-i-preserved : goal.loop-i-preserved
loop-i-preserved t c = λ g.
    remains_more _ _ _ g c.args.expr.now (below c.args.expr.now) c.loop-i.i c.part.result.now (omega arith) c.part.ensures (c.loop-i.invariant g)
    (c.remove_referred.ensures g)

pub returns : goal.returns
returns t c = λ g. remains_done _ _ g c.args.expr.now c.loop-i.i (omega arith) (c.loop-i.invariant g)
