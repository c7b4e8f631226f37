use Rattle.fancy_starts.proofs.Matches.{same_later}
use Rattle.fancy_starts.proofs.same_match_from_later.Goals as goal

pub returns : goal.returns
returns c = λ q pos continued m not_anchored free le at e. same_later q pos continued not_anchored free le m at e
