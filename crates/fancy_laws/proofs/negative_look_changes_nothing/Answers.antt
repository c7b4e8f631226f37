use Rattle.fancy_laws.proofs.LookLaws.{negative_look_changes_nothing}
use Rattle.fancy_laws.proofs.negative_look_changes_nothing.Goals as goal

pub returns : goal.returns
returns c = negative_look_changes_nothing
