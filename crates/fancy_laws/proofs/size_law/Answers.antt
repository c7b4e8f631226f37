use Rattle.fancy_laws.proofs.SizesHold.{sizes_hold}
use Rattle.fancy_laws.proofs.size_law.Goals as goal

pub returns : goal.returns
returns c = sizes_hold
