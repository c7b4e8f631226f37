use Rattle.fancy_laws.proofs.Marks.{marked_below}
use Rattle.fancy_laws.proofs.mark_law.Goals as goal

pub returns : goal.returns
returns c = marked_below
