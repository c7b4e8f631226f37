use Rattle.fancy_starts.proofs.Skipped.{of_one_start}
use Rattle.fancy_starts.proofs.answer_of_one_start.Goals as goal

pub returns : goal.returns
returns c = λ q pos continued not_anchored free le at. of_one_start q pos continued not_anchored free le at
