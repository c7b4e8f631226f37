use Rattle.std.proofs.Common.{inl}
use Rattle.fancy_starts.proofs.Matches.{match_of_answer}
use Rattle.fancy_starts.proofs.match_of_answer.Goals as goal

pub returns : goal.returns
returns c = λ q from numbers le free e. match_of_answer q (inl le) free from numbers e
