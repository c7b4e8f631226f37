use Rattle.std.proofs.Common.{◌≡◌, ◌-◌, ◌<◌, ℕ, sym, ap, ◌∙◌, subst, refl, Err, IsTrue, IsUtf8, true, false}
use Rattle.std.proofs.lemmas.Result.{err_from_is_err_and}
use Rattle.fancy_meaning.specs.Config.{Config, Ends, Goes, Outcome}
use Rattle.fancy_meaning.specs.Machine as machine
use Rattle.fancy_meaning.specs.Places.{is_place}
use Rattle.fancy_laws.proofs.Every.{no_item}
use Rattle.fancy_steps.specs.Memos.{AreMemosOf}
use Rattle.fancy_steps.specs.Outcomes.{StepAnswers, config_of, ending, plain_task, RunEnds}
use Rattle.fancy_steps.specs.declared.machine.Task.{Task}
use Rattle.fancy_program.proofs.PlacesLaws.{GoesToPlaces, IsAtPlaces, step_at_leads}
use Rattle.fancy_steps.proofs.StepLaws.{exec_step, next_of, runs_on, runs_out, stop_finds}
use Rattle.fancy_steps.proofs.machine.Machine.run.Goals as goal

pub steps-init : goal.steps-init
unfolding machine.run
steps-init c =
    let task = c.args.self.now.task in
    record {
      task = refl;
      memos = c.requires.memos;
      places = subst (IsAtPlaces task.text.now) (sym c.requires.begins) (record { here = c.requires.place; branches = no_item });
      same = ap (machine.exec (plain_task task) task.options.now.step_limit) c.requires.begins;
    }

pub step-requires-clause-memos : goal.step-requires-clause-memos
step-requires-clause-memos c = subst (λ (t : Task). AreMemosOf t c.steps.memos) (sym c.steps.invariant.task) c.steps.invariant.memos

pub step-requires-clause-place : goal.step-requires-clause-place
step-requires-clause-place c =
    subst (λ (t : Task). IsTrue (is_place (t.text).now c.steps.self.ix)) (sym c.steps.invariant.task) c.steps.invariant.places.here

pub steps-preserved : goal.steps-preserved
steps-preserved c =
    let task = c.args.self.now.task in
    let now = config_of c.steps.self in
    let new = config_of c.step.new.self in
    let left : ℕ = c.steps.left in
    let leads : next_of (plain_task task) now ≡ Goes new =
    subst (λ (t : Task). next_of (plain_task t) now ≡ Goes new) c.steps.invariant.task (rw c.in-On.is at c.in_ok-step.ensures.leads) in
    record {
      task = c.in_ok-step.ensures.task ∙ c.steps.invariant.task;
      memos = subst (λ (t : Task). AreMemosOf t c.step.new.memos) c.steps.invariant.task c.in_ok-step.ensures.memos;
      places = subst (GoesToPlaces task.text.now) leads
          (step_at_leads (plain_task task) c.requires.text task.prog.now.body.items c.steps.self.pc now c.steps.invariant.places);
      same = sym (runs_on (plain_task task) now new left c.steps-test.true leads) ∙ c.steps.invariant.same;
    }

pub returns-in_err-step-clause-finds : goal.returns-in_err-step-clause-finds
returns-in_err-step-clause-finds c =
    let task = c.args.self.now.task in
    let now = config_of c.steps.self in
    let new = c.step.new.self in
    let left : ℕ = c.steps.left in
    let stop = c.in_err-step.field-0.0 in
    let p = err_from_is_err_and c.from_residual.result c.from_residual.ensures.1 in
    let leads = subst (λ (t : Task). StepAnswers (next_of (plain_task t) now) (Err stop) new) c.steps.invariant.task c.in_err-step.ensures.leads in
    rw (p.1, p.2)
    (subst (λ (o : Outcome). RunEnds o (Err stop) new) c.steps.invariant.same
    (stop_finds (plain_task task) now new left stop c.steps-test.true leads))

pub returns-in_err-step-clause-task : goal.returns-in_err-step-clause-task
returns-in_err-step-clause-task c = c.in_err-step.ensures.task ∙ c.steps.invariant.task

pub returns-in_err-step-clause-memos : goal.returns-in_err-step-clause-memos
returns-in_err-step-clause-memos c = subst (λ (t : Task). AreMemosOf t c.step.new.memos) c.steps.invariant.task c.in_err-step.ensures.memos

pub returns-in-Matches-clause-task : goal.returns-in-Matches-clause-task
returns-in-Matches-clause-task c = c.in_ok-step.ensures.task ∙ c.steps.invariant.task

pub returns-in-Matches-clause-memos : goal.returns-in-Matches-clause-memos
returns-in-Matches-clause-memos c = subst (λ (t : Task). AreMemosOf t c.step.new.memos) c.steps.invariant.task c.in_ok-step.ensures.memos

pub returns-in-Matches-clause-finds : goal.returns-in-Matches-clause-finds
returns-in-Matches-clause-finds c =
    let task = c.args.self.now.task in
    let now = config_of c.steps.self in
    let left : ℕ = c.steps.left in
    let end = Ends (ending true c.step.new.self) in
    let leads : next_of (plain_task task) now ≡ end =
    subst (λ (t : Task). next_of (plain_task t) now ≡ end) c.steps.invariant.task (rw c.in-Matches.is at c.in_ok-step.ensures.leads) in
    sym c.steps.invariant.same ∙ runs_out (plain_task task) now left _ c.steps-test.true leads

pub returns-in-Ends-clause-task : goal.returns-in-Ends-clause-task
returns-in-Ends-clause-task c = c.in_ok-step.ensures.task ∙ c.steps.invariant.task

pub returns-in-Ends-clause-memos : goal.returns-in-Ends-clause-memos
returns-in-Ends-clause-memos c = subst (λ (t : Task). AreMemosOf t c.step.new.memos) c.steps.invariant.task c.in_ok-step.ensures.memos

pub returns-in-Ends-clause-finds : goal.returns-in-Ends-clause-finds
returns-in-Ends-clause-finds c =
    let task = c.args.self.now.task in
    let now = config_of c.steps.self in
    let left : ℕ = c.steps.left in
    let end = Ends (ending false c.step.new.self) in
    let leads : next_of (plain_task task) now ≡ end =
    subst (λ (t : Task). next_of (plain_task t) now ≡ end) c.steps.invariant.task (rw c.in-Ends.is at c.in_ok-step.ensures.leads) in
    sym c.steps.invariant.same ∙ runs_out (plain_task task) now left _ c.steps-test.true leads
