use Rattle.fancy_relations.proofs.InTurn.{all_in_turn}
use Rattle.fancy_relations.proofs.list_is_found_in_turn.Goals as goal

pub returns : goal.returns
returns c = λ p text o is no_continue no_keep. all_in_turn p text o is no_continue no_keep
