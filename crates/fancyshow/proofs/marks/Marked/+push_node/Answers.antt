use Rattle.std.proofs.Common.{arith}
use Rattle.fancy_expr.proofs.Exprs.{child_smaller}
use Rattle.fancyshow.proofs.marks.Marked.+push_node.Goals as goal

pub push_node-requires : goal.push_node-requires
push_node-requires t c = (omega (arith, child_smaller c.args.expr.now c.part.result.now c.loop-i.i (omega arith) c.part.ensures), tt)
