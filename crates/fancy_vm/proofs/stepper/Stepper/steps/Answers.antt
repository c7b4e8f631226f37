use Rattle.std.proofs.Common.{subst}
use Rattle.fancy_vm.specs.Steppers.{IsOnRun, StepperView, config_in, task_in}
use Rattle.fancy_vm.proofs.stepper.Stepper.steps.Goals as goal

pub returns-clause-on_run : goal.returns-clause-on_run
returns-clause-on_run c =
    subst (λ (w : StepperView). IsOnRun (task_in w) c.self.inside.steps (config_in w)) c.self.view_is c.self.invariant.on_run
