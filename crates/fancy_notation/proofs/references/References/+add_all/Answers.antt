use Rattle.std.proofs.Common.{arith}
use Rattle.fancy_expr.specs.Views.{tree_of}
use Rattle.fancy_expr.specs.Exprs.{below}
use Rattle.fancy_expr.proofs.Exprs.{child_smaller}
use Rattle.fancy_notation.specs.References.{with_node}
use Rattle.fancy_notation.specs.NotationViews.{referenced_of}
use Rattle.fancy_notation.proofs.ReferencesLaws.{with_more, with_done}
use Rattle.fancy_notation.proofs.references.References.+add_all.Goals as goal

pub add_all-requires : goal.add_all-requires
add_all-requires t c = (omega (arith, child_smaller c.args.expr.now c.part.result.now c.loop-i.i (omega arith) c.part.ensures), tt)

pub loop-i-preserved : goal.loop-i-preserved
loop-i-preserved t c =
    with_more (with_node (referenced_of c.args.self.now) (tree_of c.args.expr.now)) (referenced_of c.loop-i.self) (referenced_of c.add_all.new.self)
    (below c.args.expr.now) c.loop-i.i c.part.result.now (omega arith) c.part.ensures c.loop-i.invariant c.in_ok-add_all.ensures

pub returns : goal.returns
returns t c = with_done (referenced_of c.args.self.now) (referenced_of c.loop-i.self) c.args.expr.now c.loop-i.i (omega arith) c.loop-i.invariant
