use Rattle.std.proofs.Common.{inl}
use Rattle.fancy_starts.proofs.Matches.{answer_begins}
use Rattle.fancy_starts.proofs.answer_begins_at_its_start.Goals as goal

pub returns : goal.returns
returns c = λ q m le free e. answer_begins q m (inl le) free e
