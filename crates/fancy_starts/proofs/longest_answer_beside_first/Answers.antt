use Rattle.fancy_starts.proofs.Longest.{longest_answer_beside}
use Rattle.fancy_starts.proofs.longest_answer_beside_first.Goals as goal

pub returns : goal.returns
returns c = longest_answer_beside
