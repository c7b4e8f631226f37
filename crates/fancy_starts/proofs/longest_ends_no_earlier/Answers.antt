use Rattle.fancy_starts.proofs.Longest.{longest_ends}
use Rattle.fancy_starts.proofs.longest_ends_no_earlier.Goals as goal

pub returns : goal.returns
returns c = longest_ends
