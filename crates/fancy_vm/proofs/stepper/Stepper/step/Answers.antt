use Rattle.std.proofs.Common.{◌+◌, ◌-◌, ◌<◌, ℕ, sym, subst, refl, true, false, Ok, Err, IsTrue, IsUtf8, arith}
use Rattle.std.proofs.lemmas.Result.{err_from_is_err_and}
use Rattle.fancy_meaning.specs.Config.{Outcome}
use Rattle.fancy_meaning.specs.Fits.{run_fits}
use Rattle.fancy_meaning.specs.Machine as machine
use Rattle.fancy_steps.specs.Memos.{AreMemosOf}
use Rattle.fancy_steps.specs.Outcomes.{RunAnswers, config_of, ending, plain_task}
use Rattle.fancy_steps.specs.Stops.{error_of}
use Rattle.fancy_vm.specs.Steppers.{StepperView, view_of, task_in}
use Rattle.fancy_vm.specs.StepperSteps.{IsFurther}
use Rattle.fancy_steps.specs.declared.machine.Task.{Task}
use Rattle.fancy_vm.proofs.SteppersLaws.{ends_so, stands_at, stops_so, steps_by}
use Rattle.fancy_vm.proofs.stepper.Stepper.step.Goals as goal

pub step-requires-clause-place : goal.step-requires-clause-place
step-requires-clause-place c =
    let m = c.self.inside.machine in
    let stepper = c.self.invariant in
    (stands_at (plain_task m.task) m.task.prog.now.body.items c.self.inside.steps (config_of m) stepper.text refl stepper.fits stepper.on_run).here

pub returns-in_err-step : goal.returns-in_err-step
returns-in_err-step c =
    let m = c.self.inside.machine in
    let t = plain_task m.task in
    let p = err_from_is_err_and c.from_residual.result c.from_residual.ensures.1 in
    let some : 0 < t.step_limit - c.self.inside.steps = omega (arith, c.if-left-eq0.false) in
    rw (p.1, p.2)
    (subst (λ (w : StepperView). RunAnswers (machine.run (task_in w)) (Err (error_of c.in_err-step.field-0.0))) c.self.view_is
    (stops_so t c.self.inside.steps (config_of m) c.step.new.self c.in_err-step.field-0.0 c.self.invariant.on_run some c.in_err-step.ensures.leads))

pub returns-in-Matches : goal.returns-in-Matches
returns-in-Matches c =
    let m = c.self.inside.machine in
    let t = plain_task m.task in
    let some : 0 < t.step_limit - c.self.inside.steps = omega (arith, c.if-left-eq0.false) in
    let same = ends_so t c.self.inside.steps (config_of m) (ending true c.step.new.self) c.self.invariant.on_run some
    (rw c.in-Matches.is at c.in_ok-step.ensures.leads) in
    subst (λ (w : StepperView). RunAnswers (machine.run (task_in w)) (Ok c.in_ok-ending_of-in-Matches.field-0)) c.self.view_is
    (subst (λ (o : Outcome). RunAnswers o (Ok c.in_ok-ending_of-in-Matches.field-0)) (sym same) c.in_ok-ending_of-in-Matches.ensures)

pub returns : goal.returns
returns c =
    let m = c.self.inside.machine in
    let t = plain_task m.task in
    let some : 0 < t.step_limit - c.self.inside.steps = omega (arith, c.if-left-eq0.false) in
    let same = ends_so t c.self.inside.steps (config_of m) (ending false c.step.new.self) c.self.invariant.on_run some
    (rw c.in-Ends.is at c.in_ok-step.ensures.leads) in
    subst (λ (w : StepperView). RunAnswers (machine.run (task_in w)) (Ok c.in_ok-ending_of-in-Ends.field-0)) c.self.view_is
    (subst (λ (o : Outcome). RunAnswers o (Ok c.in_ok-ending_of-in-Ends.field-0)) (sym same) c.in_ok-ending_of-in-Ends.ensures)

pub invariant_of-result : goal.invariant_of-result
invariant_of-result c =
    let m = c.self.inside.machine in
    let new = c.step.new.self in
    let n : ℕ = c.self.inside.steps in
    let stepper = c.self.invariant in
    let same = sym c.in_ok-step.ensures.task in
    let some : 0 < (plain_task m.task).step_limit - n = omega (arith, c.if-left-eq0.false) in
    record {
      text = subst (λ (t : Task). IsUtf8 (t.text).now) same stepper.text;
      fits = subst (λ (t : Task). IsTrue (run_fits (plain_task t))) same stepper.fits;
      are_memos = subst (λ (t : Task). AreMemosOf t c.step.new.memos) same c.in_ok-step.ensures.memos;
      on_run = (steps_by m new c.in_ok-step.ensures.task n (rw c.in-On.is at c.in_ok-step.ensures.leads) stepper.on_run some).on_run;
    }

pub returns-in-On : goal.returns-in-On
returns-in-On c =
    let m = c.self.inside.machine in
    let new = c.step.new.self in
    let n : ℕ = c.self.inside.steps in
    let some : 0 < (plain_task m.task).step_limit - n = omega (arith, c.if-left-eq0.false) in
    subst (λ (w : StepperView). IsFurther w (view_of new (n + 1))) c.self.view_is
    (steps_by m new c.in_ok-step.ensures.task n (rw c.in-On.is at c.in_ok-step.ensures.leads) c.self.invariant.on_run some)
