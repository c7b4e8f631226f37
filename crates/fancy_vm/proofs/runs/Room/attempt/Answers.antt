use Rattle.fancy_program.specs.Programs.{prog_of}
use Rattle.fancy_program.proofs.FitsLaws.{flag_two, run_implicit}
use Rattle.fancy_steps.specs.Outcomes.{plain_task}
use Rattle.fancy_vm.proofs.runs.Room.attempt.Goals as goal

pub write_pair-requires : goal.write_pair-requires
write_pair-requires c = flag_two (prog_of c.args.task.now.prog.now) (run_implicit (plain_task c.args.task.now) c.requires.fits)

pub write_groups-requires : goal.write_groups-requires
write_groups-requires c = flag_two (prog_of c.args.task.now.prog.now) (run_implicit (plain_task c.args.task.now) c.requires.fits)
