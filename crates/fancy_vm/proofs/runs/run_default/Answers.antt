use Rattle.std.specs.Prelude.{IfOk}
use Rattle.std.proofs.Common.{subst}
use Rattle.fancy_meaning.specs.Options.{RunOptions}
use Rattle.fancy_vm.specs.Bounds.{IfLimit, RunMayPass}
use Rattle.fancy_vm.specs.Means.{IsMeaning, numbers_of}
use Rattle.fancy_program.specs.Programs.{prog_of}
use Rattle.fancy_vm.proofs.runs.run_default.Goals as goal

pub returns-clause-headline : goal.returns-clause-headline
returns-clause-headline c =
    subst (λ (o : RunOptions). IfOk c.run.result (λ found. IsMeaning (prog_of c.args.prog.now) c.args.text.now o (numbers_of found)))
    c.from_pos.ensures c.run.ensures.headline

pub returns-clause-bounds : goal.returns-clause-bounds
returns-clause-bounds c =
    subst (λ (o : RunOptions). IfLimit c.run.result (RunMayPass (prog_of c.args.prog.now) c.args.text.now o))
    c.from_pos.ensures c.run.ensures.bounds
