use Rattle.fancy_costs.proofs.Costing.{instructions_of_all}
use Rattle.fancy_costs.proofs.instructions_of_all_searches.Goals as goal

pub returns : goal.returns
returns c = λ p text o is. instructions_of_all p text o is
