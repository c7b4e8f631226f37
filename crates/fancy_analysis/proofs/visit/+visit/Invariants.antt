use Rattle.std.proofs.Common.{take, length}
use Rattle.fancy_expr.specs.Exprs.{below, exprs}
use Rattle.fancy_expr.specs.Walk.{start_inside, within_inside, within_of}
use Rattle.fancy_analysis.proofs.MadeNodes.{AreVisited}
use Rattle.fancy_analysis.proofs.visit.+visit.Given as goal

abbrev pub decreases-visit : goal.decreases-visit
decreases-visit l = length (exprs l.expr.now)

abbrev pub invariant-loop-i : goal.invariant-loop-i
invariant-loop-i l =
    AreVisited l.tables (take l.i (below l.expr)) (start_inside l.expr l.start_group) (within_inside l.expr (within_of l.within)) l.next_group l.children.items
