use Rattle.fancy_relations.proofs.Limited.{same_match}
use Rattle.fancy_relations.proofs.limits_change_no_match.Goals as goal

pub returns : goal.returns
returns c = λ pattern a b r q text pos found other but is same one two. same_match pattern a b r q text pos but is same found other one two
