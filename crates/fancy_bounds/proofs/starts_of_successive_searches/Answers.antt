use Rattle.fancy_bounds.proofs.Successive.{starts_of_successive}
use Rattle.fancy_bounds.proofs.starts_of_successive_searches.Goals as goal

pub returns : goal.returns
returns c = starts_of_successive
