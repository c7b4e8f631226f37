use Rattle.std.proofs.Common.{refl, subst, IsTrue}
use Rattle.fancy_meaning.specs.Places.{is_place}
use Rattle.fancy_steps.specs.Outcomes.{config_of, plain_task}
use Rattle.fancy_vm.specs.Steppers.{StepperView}
use Rattle.fancy_vm.proofs.SteppersLaws.{stands_at}
use Rattle.fancy_vm.proofs.stepper.Stepper.ix.Goals as goal

pub returns-clause-place : goal.returns-clause-place
returns-clause-place c =
    let m = c.self.inside.machine in
    let stepper = c.self.invariant in
    subst (λ (w : StepperView). IsTrue (is_place w.text m.ix)) c.self.view_is
    (stands_at (plain_task m.task) m.task.prog.now.body.items c.self.inside.steps (config_of m) stepper.text refl stepper.fits stepper.on_run).here
