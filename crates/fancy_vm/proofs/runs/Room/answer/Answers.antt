use Rattle.std.proofs.Common.{subst, sym, IsTrue}
use Rattle.fancy_meaning.specs.Machine as machine
use Rattle.fancy_meaning.specs.Places.{is_place}
use Rattle.fancy_steps.specs.Memos.{AreMemosOf}
use Rattle.fancy_steps.specs.Outcomes.{RunAnswers, answer_in, plain_task}
use Rattle.fancy_steps.specs.declared.machine.Task.{Task}
use Rattle.fancy_program.proofs.FitsLaws.{run_implicit, run_place}
use Rattle.fancy_vm.proofs.runs.Room.answer.Goals as goal

pub begin-m-requires-clause-implicit : goal.begin-m-requires-clause-implicit
begin-m-requires-clause-implicit c = run_implicit (plain_task c.args.task.now) c.requires.fits

pub answer-answer-requires-clause-place : goal.answer-answer-requires-clause-place
answer-answer-requires-clause-place c =
    subst (λ (t : Task). IsTrue (is_place (t.text).now ((t.options).now).pos)) (sym c.begin-m.ensures.task)
    (run_place (plain_task c.args.task.now) c.requires.fits)

pub returns-clause-answers : goal.returns-clause-answers
returns-clause-answers c =
    subst (λ (t : Task). RunAnswers (machine.run (plain_task t)) (answer_in c.answer-answer.result c.answer-answer.new.numbers))
    c.begin-m.ensures.task c.answer-answer.ensures.answers

pub returns-clause-memos : goal.returns-clause-memos
returns-clause-memos c =
    c.note.ensures.memos c.args.task.now
    (subst (λ (t : Task). AreMemosOf t c.answer-answer.new.memos) c.begin-m.ensures.task c.answer-answer.ensures.memos)
