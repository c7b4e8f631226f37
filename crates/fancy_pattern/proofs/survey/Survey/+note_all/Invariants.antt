use Rattle.std.proofs.Common.{◌∷◌, length, take, map}
use Rattle.fancy_expr.specs.Views.{tree_of}
use Rattle.fancy_expr.specs.Exprs.{below, exprs, exprs_of_each}
use Rattle.fancy_pattern.specs.Described.{Notes}
use Rattle.fancy_pattern.proofs.survey.Survey.+note_all.Given as goal

abbrev pub decreases-note_all : goal.decreases-note_all
decreases-note_all l = length (exprs l.expr.now)

abbrev pub invariant-loop-i : goal.invariant-loop-i
invariant-loop-i l = Notes (tree_of l.expr ∷ map tree_of (exprs_of_each (take l.i (below l.expr)))) l.fn.self l.self
