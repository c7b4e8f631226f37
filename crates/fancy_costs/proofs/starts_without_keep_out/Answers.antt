use Rattle.fancy_costs.proofs.Costing.{starts_without}
use Rattle.fancy_costs.proofs.starts_without_keep_out.Goals as goal

pub returns : goal.returns
returns c = λ p text o is free. starts_without p text o is free
