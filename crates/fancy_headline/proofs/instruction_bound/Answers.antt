use Rattle.fancy_headline.proofs.Bounds.{instruction_bound}
use Rattle.fancy_headline.proofs.instruction_bound.Goals as goal

pub returns : goal.returns
returns c = instruction_bound
