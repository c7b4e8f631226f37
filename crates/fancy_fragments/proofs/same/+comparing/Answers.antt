use Rattle.std.proofs.Common.{arith}
use Rattle.fancy_expr.specs.Exprs.{below}
use Rattle.fancy_expr.specs.Views.{tree_of}
use Rattle.fancy_expr.proofs.Exprs.{child_smaller}
use Rattle.fancy_fragments.proofs.SameTrees.{same_tree, same_more, same_all}
use Rattle.fancy_fragments.proofs.same.+comparing.Goals as goal

pub differs-returns-then-is_alike : goal.differs-returns-then-is_alike
differs-returns-then-is_alike t c = λ same.
    same_tree c.args.expr.now c.args.other.now (c.is_alike.ensures c.if-is_alike.true) (c.parts_differ.ensures same)

pub parts_differ-differs-requires : goal.parts_differ-differs-requires
parts_differ-differs-requires t c =
    (omega (arith, child_smaller c.args.expr.now c.part.result.now c.loop-i.i (omega arith) c.part.ensures), tt)

pub parts_differ-loop-i-preserved : goal.parts_differ-loop-i-preserved
parts_differ-loop-i-preserved t c =
    same_more tree_of tree_of (below c.args.expr.now) (below c.args.other.now) c.loop-i.i c.part.result.now c.part-in-loop-i.result.now
    (omega arith) c.part.ensures (omega arith) c.part-in-loop-i.ensures (c.differs.ensures c.if-differs.false) c.loop-i.invariant

pub parts_differ-returns : goal.parts_differ-returns
parts_differ-returns t c = λ _.
    same_all tree_of tree_of (below c.args.expr.now) (below c.args.other.now) c.loop-i.i (omega arith) (omega arith) c.loop-i.invariant
