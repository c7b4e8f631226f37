use Rattle.fancy_relations.proofs.Replaced.{by_literal}
use Rattle.fancy_relations.proofs.replaced_by_literal.Goals as goal

pub returns : goal.returns
returns c = λ r q text by limit write v same is i o of_regex. by_literal r q text by limit write v same is i o of_regex
