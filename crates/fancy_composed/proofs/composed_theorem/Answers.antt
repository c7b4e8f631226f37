use Rattle.fancy_composed.proofs.Composed.{composed}
use Rattle.fancy_composed.proofs.composed_theorem.Goals as goal

pub returns : goal.returns
returns c = composed
