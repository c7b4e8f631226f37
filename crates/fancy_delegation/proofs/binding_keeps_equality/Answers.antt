use Rattle.fancy_delegation.proofs.KeyEquality.{binding_keeps_equality}
use Rattle.fancy_delegation.proofs.binding_keeps_equality.Goals as goal

pub returns : goal.returns
returns c = binding_keeps_equality
