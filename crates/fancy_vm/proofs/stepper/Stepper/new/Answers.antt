use Rattle.std.proofs.Common.{◌≡◌, subst, sym, IsTrue, IsUtf8}
use Rattle.fancy_meaning.specs.Fits.{run_fits}
use Rattle.fancy_meaning.specs.Machine.{begin}
use Rattle.fancy_steps.specs.Outcomes.{config_of, plain_task}
use Rattle.fancy_steps.specs.Tasks.{task_of}
use Rattle.fancy_steps.specs.declared.machine.Task.{Task}
use Rattle.fancy_program.proofs.FitsLaws.{run_implicit}
use Rattle.fancy_vm.proofs.SteppersLaws.{at_start}
use Rattle.fancy_vm.proofs.stepper.Stepper.new.Goals as goal

pub begin-requires-clause-implicit : goal.begin-requires-clause-implicit
begin-requires-clause-implicit c = run_implicit (task_of c.args.prog.now c.args.text.now c.args.options.now) c.requires

pub invariant_of-result : goal.invariant_of-result
invariant_of-result c =
    let m = c.begin.result in
    let same = sym c.begin.ensures.task in
    record {
      text = subst (λ (t : Task). IsUtf8 (t.text).now) same c.utf8.text;
      fits = subst (λ (t : Task). IsTrue (run_fits (plain_task t))) same c.requires;
      are_memos = c.new-3.ensures m.task;
      on_run = at_start (plain_task m.task) (config_of m) (subst (λ (t : Task). config_of m ≡ begin (plain_task t)) same c.begin.ensures.begins);
    }
