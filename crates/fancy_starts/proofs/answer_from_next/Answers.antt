use Rattle.fancy_starts.proofs.Skipped.{same_from_next}
use Rattle.fancy_starts.proofs.answer_from_next.Goals as goal

pub returns : goal.returns
returns c = λ q pos continued not_anchored free le none. same_from_next q pos continued not_anchored free le none
