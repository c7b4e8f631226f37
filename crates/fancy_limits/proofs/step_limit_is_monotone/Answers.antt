use Rattle.fancy_limits.proofs.Steps.{higher_step_limit}
use Rattle.fancy_limits.proofs.step_limit_is_monotone.Goals as goal

pub returns : goal.returns
returns c = higher_step_limit
