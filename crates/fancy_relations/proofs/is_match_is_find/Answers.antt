use Rattle.fancy_relations.proofs.Found.{whether_is_match}
use Rattle.fancy_relations.proofs.is_match_is_find.Goals as goal

pub returns : goal.returns
returns c = λ pattern o r text pos there found is whether finds. whether_is_match pattern o r text pos there found is whether finds
