use Rattle.fancy_laws.proofs.Anchors.{anchored_ways}
use Rattle.fancy_laws.proofs.anchor_law.Goals as goal

pub returns : goal.returns
returns c = anchored_ways
