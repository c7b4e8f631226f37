use Rattle.fancy_headline.proofs.Bounds.{backtrack_bound}
use Rattle.fancy_headline.proofs.backtrack_bound.Goals as goal

pub returns : goal.returns
returns c = backtrack_bound
