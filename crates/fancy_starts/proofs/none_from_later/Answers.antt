use Rattle.fancy_starts.proofs.Matches.{no_answer_later}
use Rattle.fancy_starts.proofs.none_from_later.Goals as goal

pub returns : goal.returns
returns c = λ q pos continued not_anchored free le e. no_answer_later q pos continued not_anchored free le e
