use Rattle.fancy_relations.proofs.Found.{match_is_group_zero}
use Rattle.fancy_relations.proofs.find_is_group_zero.Goals as goal

pub returns : goal.returns
returns c =
    λ pattern o r text pos found groups is fits finds captures. match_is_group_zero pattern o r text pos found groups is fits finds captures
