use Rattle.fancy_costs.proofs.Costing.{starts_of_all}
use Rattle.fancy_costs.proofs.starts_of_all_searches.Goals as goal

pub returns : goal.returns
returns c = λ p text o is. starts_of_all p text o is
