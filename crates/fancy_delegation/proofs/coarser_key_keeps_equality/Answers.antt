use Rattle.fancy_delegation.proofs.KeyEquality.{coarser_key_keeps_equality}
use Rattle.fancy_delegation.proofs.coarser_key_keeps_equality.Goals as goal

pub returns : goal.returns
returns c = coarser_key_keeps_equality
