use Rattle.fancy_composed.proofs.Undelegated.{undelegated_runs_end}
use Rattle.fancy_composed.proofs.undelegated_runs_end.Goals as goal

pub returns : goal.returns
returns c = undelegated_runs_end
