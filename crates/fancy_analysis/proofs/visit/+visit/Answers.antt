use Rattle.std.proofs.Common.{subst, arith}
use Rattle.fancy_expr.specs.Exprs.{below}
use Rattle.fancy_expr.specs.Walk.{within_inside, within_of}
use Rattle.fancy_analysis.specs.Made.{IsVisited}
use Rattle.fancy_expr.proofs.Exprs.{child_smaller}
use Rattle.fancy_analysis.proofs.MadeNodes.{visited_more, visited_node}
use Rattle.fancy_expr.proofs.Starts.{room}
use Rattle.fancy_analysis.proofs.visit.+visit.Goals as goal

pub visit-requires : goal.visit-requires
visit-requires t c = (
  omega (arith, child_smaller c.args.expr.now c.part.result.now c.loop-i.i (omega arith) c.part.ensures),
  room c.args.expr.now c.part.result.now c.loop-i.i c.args.start_group c.loop-i.next_group (omega arith) c.part.ensures c.loop-i.invariant.counted c.requires,
)

pub loop-i-preserved : goal.loop-i-preserved
loop-i-preserved t c =
    let tables = c.args.tables.now in
    let child = c.part.result.now in
    let here : IsVisited tables child c.loop-i.next_group (within_inside c.args.expr.now (within_of c.args.within)) c.in_ok-child.child =
    subst (λ w. IsVisited tables child c.loop-i.next_group w c.in_ok-child.child) c.within_inside-inside.ensures c.in_ok-child.ensures in
    visited_more tables (below c.args.expr.now) c.loop-i.i child _ _ c.loop-i.next_group c.loop-i.children.items _ c.in_ok-child.child
    (omega arith) c.part.ensures c.loop-i.invariant here c.in_ok-push.ensures.items

pub returns : goal.returns
returns t c = visited_node _ c.args.expr.now c.loop-i.i _ _ _ _ _ (omega arith) c.loop-i.invariant c.make_info.ensures
