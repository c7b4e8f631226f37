use Rattle.fancy_laws.proofs.SizesHold.{span_sizes_hold}
use Rattle.fancy_laws.proofs.span_size_law.Goals as goal

pub returns : goal.returns
returns c = span_sizes_hold
