use Rattle.fancy_starts.proofs.Matches.{answer_is}
use Rattle.fancy_starts.proofs.answer_is_of_match.Goals as goal

pub returns : goal.returns
returns c = answer_is
