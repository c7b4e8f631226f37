use Rattle.fancy_bounds.proofs.Begun.{backtracks_by_starts}
use Rattle.fancy_bounds.proofs.backtracks_by_starts_begun.Goals as goal

pub returns : goal.returns
returns c = backtracks_by_starts
