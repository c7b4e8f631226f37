use Rattle.fancy_starts.proofs.Matches.{same_answer_later}
use Rattle.fancy_starts.proofs.same_answer_from_later.Goals as goal

pub returns : goal.returns
returns c = λ q pos from continued numbers not_anchored free keeps le at e.
    same_answer_later q pos continued not_anchored free le keeps from numbers at e
