use Rattle.std.proofs.Common.{◌++◌, arith}
use Rattle.fancy_expr.specs.Exprs.{below, exprs}
use Rattle.fancy_expr.proofs.Exprs.{child_smaller}
use Rattle.fancy_faults.specs.Known.{exprs_of}
use Rattle.fancy_faults.proofs.Nodes.{begun, one_child, no_more}
use Rattle.fancy_faults.proofs.finder.+push_nodes.Goals as goal

pub push_nodes-requires : goal.push_nodes-requires
push_nodes-requires t c =
    (omega (arith, child_smaller c.args.expr.now c.part.result.now c.loop-i.i (omega arith) c.part.ensures), tt)

pub loop-i-init : goal.loop-i-init
loop-i-init t c = begun c.args.nodes.now.items c.args.expr _ c.in_ok-push.ensures.items

pub loop-i-preserved : goal.loop-i-preserved
loop-i-preserved t c =
    one_child c.loop-i.nodes.items _ (exprs_of c.args.nodes.now.items ++ exprs c.args.expr.now) (below c.args.expr.now) c.loop-i.i
    c.part.result.now (omega arith) c.part.ensures c.in_ok-push_nodes.ensures c.loop-i.invariant

pub returns : goal.returns
returns t c =
    no_more c.loop-i.nodes.items (exprs_of c.args.nodes.now.items ++ exprs c.args.expr.now) (below c.args.expr.now) c.loop-i.i
    (omega arith) c.loop-i.invariant
