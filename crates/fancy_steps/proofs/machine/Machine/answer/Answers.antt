use Rattle.std.proofs.Common.{subst, sym}
use Rattle.fancy_meaning.specs.Config.{Outcome}
use Rattle.fancy_steps.specs.Outcomes.{RunAnswers, answer_in}
use Rattle.fancy_steps.proofs.machine.Machine.answer.Goals as goal

pub returns-clause-answers : goal.returns-clause-answers
returns-clause-answers c =
    subst (λ (o : Outcome). RunAnswers o (answer_in c.write_ending.result c.write_ending.new.numbers))
    (sym c.in_ok-by_slots.ensures.finds) c.write_ending.ensures
