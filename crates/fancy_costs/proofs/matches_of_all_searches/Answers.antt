use Rattle.fancy_costs.proofs.Costing.{finds_all}
use Rattle.fancy_costs.proofs.matches_of_all_searches.Goals as goal

pub returns : goal.returns
returns c = λ p text o is. finds_all p text o is
