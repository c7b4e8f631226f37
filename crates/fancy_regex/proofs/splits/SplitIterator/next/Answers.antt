use Rattle.std.proofs.Common.{refl}
use Rattle.fancy_regex.proofs.splits.SplitIterator.next.Goals as goal

pub returns-clause-steps : goal.returns-clause-steps
returns-clause-steps c = record { gives = c.next_piece.ensures.gives; name = refl }
