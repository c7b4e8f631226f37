use Rattle.fancy_bounds.proofs.Successive.{starts_further_on}
use Rattle.fancy_bounds.proofs.starts_of_searches_further_on.Goals as goal

pub returns : goal.returns
returns c = starts_further_on
