use Rattle.fancy_headline.proofs.Bounds.{branch_bound}
use Rattle.fancy_headline.proofs.branch_bound.Goals as goal

pub returns : goal.returns
returns c = branch_bound
