use Rattle.fancy_limits.proofs.Backtracks.{higher_backtrack_limit}
use Rattle.fancy_limits.proofs.backtrack_limit_is_monotone.Goals as goal

pub returns : goal.returns
returns c = higher_backtrack_limit
