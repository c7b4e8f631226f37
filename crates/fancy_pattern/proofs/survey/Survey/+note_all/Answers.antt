use Rattle.std.proofs.Common.{arith}
use Rattle.fancy_expr.specs.Views.{tree_of}
use Rattle.fancy_expr.specs.Exprs.{below}
use Rattle.fancy_expr.proofs.Exprs.{child_smaller}
use Rattle.fancy_pattern.proofs.Surveys.{notes_more, notes_done}
use Rattle.fancy_pattern.proofs.survey.Survey.+note_all.Goals as goal

pub note_all-requires : goal.note_all-requires
note_all-requires t c = (omega (arith, child_smaller c.args.expr.now c.part.result.now c.loop-i.i (omega arith) c.part.ensures), tt)

pub loop-i-preserved : goal.loop-i-preserved
loop-i-preserved t c =
    notes_more (tree_of c.args.expr.now) c.args.self.now c.loop-i.self c.note_all.new.self (below c.args.expr.now) c.loop-i.i c.part.result.now (omega arith)
    c.part.ensures c.loop-i.invariant c.in_ok-note_all.ensures

pub returns : goal.returns
returns t c = notes_done c.args.self.now c.loop-i.self c.args.expr.now c.loop-i.i (omega arith) c.loop-i.invariant
