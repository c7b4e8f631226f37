use Rattle.std.proofs.Common.{arith}
use Rattle.fancy_expr.specs.Exprs.{below}
use Rattle.fancy_expr.proofs.Exprs.{child_smaller}
use Rattle.fancy_hybrid.proofs.Nodes.{alt_translated, concat_translated, empty_of, one_child}
use Rattle.fancy_hybrid.proofs.translate.Translator.+translate.Goals as goal

pub each_below-node-requires : goal.each_below-node-requires
each_below-node-requires t c =
    (omega (arith, child_smaller c.args.expr.now c.part.result.now c.loop-i.i (omega arith) c.part.ensures), tt)

pub each_below-loop-i-preserved : goal.each_below-loop-i-preserved
each_below-loop-i-preserved t c =
    one_child c.args.self.unicode c.args.first (below c.args.expr.now) c.loop-i.parts c.loop-i.i c.part.result.now c.in-Some.one
    c.push.new.self (omega arith) c.part.ensures c.loop-i.invariant (rw c.in-Some.is at c.in_ok-one.ensures) c.in_ok-push.ensures.items

pub node-returns-in-Empty : goal.node-returns-in-Empty
node-returns-in-Empty t c = empty_of c.args.self.unicode c.args.first c.args.expr.now c.in-Empty.is

pub node-returns-in-Some : goal.node-returns-in-Some
node-returns-in-Some t c =
    concat_translated c.args.self.unicode c.args.first c.args.expr.now c.in-Concat.field-0 c.in-Some.parts c.in-Concat.is
    (rw c.in-Some.is at c.in_ok-parts-in-Concat.ensures)

pub node-returns-in-Some-2 : goal.node-returns-in-Some-2
node-returns-in-Some-2 t c =
    alt_translated c.args.self.unicode c.args.first c.args.expr.now c.in-Alt.field-0 c.in-Some-2.parts c.in-Alt.is
    (rw c.in-Some-2.is at c.in_ok-parts-in-Alt.ensures)
