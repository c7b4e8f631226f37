use Rattle.fancy_costs.proofs.Costing.{instructions_of_easy}
use Rattle.fancy_costs.proofs.instructions_of_easy_tree.Goals as goal

pub returns : goal.returns
returns c = λ p text o is easy. instructions_of_easy p text o is easy
