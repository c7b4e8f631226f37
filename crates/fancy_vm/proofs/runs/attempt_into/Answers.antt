use Rattle.std.proofs.Common.{◌<◌, ◌∙◌, length, arith, refl, sym}
use Rattle.fancy_meaning.specs.Numbers.{usize_max}
use Rattle.fancy_steps.specs.Outcomes.{answer_in}
use Rattle.fancy_program.specs.Programs.{prog_of}
use Rattle.fancy_steps.specs.Tasks.{options_of}
use Rattle.fancy_vm.proofs.AttemptsLaws.{memos_of_same}
use Rattle.fancy_vm.proofs.BoundsLaws.{run_bounds}
use Rattle.fancy_vm.proofs.MeaningLaws.{run_means}
use Rattle.fancy_steps.proofs.SearchLimitsLaws.{stays_within}
use Rattle.fancy_vm.proofs.runs.attempt_into.Goals as goal

pub returns-in-None-clause-headline : goal.returns-in-None-clause-headline
returns-in-None-clause-headline c =
    let small : length c.args.text.now < usize_max = omega arith in
    run_means (prog_of c.args.prog.now) c.args.text.now (options_of c.args.options.now) c.utf8.text small
    (answer_in c.attempt-answer.result c.attempt-answer.new.numbers) c.requires.fits c.attempt-answer.ensures.answers

pub returns-in-None-clause-bounds : goal.returns-in-None-clause-bounds
returns-in-None-clause-bounds c =
    let small : length c.args.text.now < usize_max = omega arith in
    run_bounds (prog_of c.args.prog.now) c.args.text.now (options_of c.args.options.now) c.utf8.text small
    (answer_in c.attempt-answer.result c.attempt-answer.new.numbers) c.requires.fits c.attempt-answer.ensures.answers

pub returns-in-None-clause-stays : goal.returns-in-None-clause-stays
returns-in-None-clause-stays c = stays_within c.attempt-answer.result _ (sym c.passed.ensures ∙ c.in-None.is)

pub attempt-answer-requires-clause-memos : goal.attempt-answer-requires-clause-memos
attempt-answer-requires-clause-memos c = c.requires.may.are_memos _ refl refl

pub returns-in-None-clause-may : goal.returns-in-None-clause-may
returns-in-None-clause-may c = record {
  are_memos = λ task prog text. memos_of_same _ task c.attempt-answer.new.self.memos prog text c.attempt-answer.ensures.memos;
}

pub returns-in-Some-clause-may : goal.returns-in-Some-clause-may
returns-in-Some-clause-may c = record {
  are_memos = λ task prog text. memos_of_same _ task c.attempt-answer.new.self.memos prog text c.attempt-answer.ensures.memos;
}
