use Rattle.fancy_composed.proofs.Undelegated.{undelegated}
use Rattle.fancy_composed.proofs.undelegated_headline.Goals as goal

pub returns : goal.returns
returns c = undelegated
