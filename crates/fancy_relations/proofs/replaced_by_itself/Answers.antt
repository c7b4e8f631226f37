use Rattle.fancy_relations.proofs.Replaced.{by_itself}
use Rattle.fancy_relations.proofs.replaced_by_itself.Goals as goal

pub returns : goal.returns
returns c = λ pattern options r q text limit names v built fits is. by_itself pattern options r q text limit names v built fits is
