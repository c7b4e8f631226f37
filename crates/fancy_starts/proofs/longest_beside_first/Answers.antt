use Rattle.fancy_starts.proofs.Longest.{longest_beside}
use Rattle.fancy_starts.proofs.longest_beside_first.Goals as goal

pub returns : goal.returns
returns c = longest_beside
