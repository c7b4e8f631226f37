use Rattle.fancy_meaning.specs.Premises.{plan}
use Rattle.fancy_matches.proofs.Lists.{pieces_join}
use Rattle.fancy_relations.proofs.split_joins.Goals as goal

pub returns : goal.returns
returns c = λ i text o is. pieces_join (plan i) text o is
