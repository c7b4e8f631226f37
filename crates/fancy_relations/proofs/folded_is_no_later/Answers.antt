use Rattle.fancy_relations.proofs.Folded.{folded_no_later}
use Rattle.fancy_relations.proofs.folded_is_no_later.Goals as goal

pub returns : goal.returns
returns c =
    λ s pattern o r q text pos found other unfolded spells is same one two. folded_no_later s pattern o r q text pos found other unfolded spells is same one two
