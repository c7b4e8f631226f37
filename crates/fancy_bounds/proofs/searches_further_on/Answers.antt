use Rattle.fancy_bounds.proofs.Successive.{searches_further_on}
use Rattle.fancy_bounds.proofs.searches_further_on.Goals as goal

pub returns : goal.returns
returns c = searches_further_on
