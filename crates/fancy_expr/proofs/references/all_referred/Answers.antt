use Rattle.std.proofs.Common.{refl}
use Rattle.fancy_expr.proofs.Referred.{none_left}
use Rattle.fancy_expr.proofs.references.all_referred.Goals as goal

pub returns : goal.returns
returns c = none_left _ _ _ c.remove_referred.ensures _ refl _ c.is_empty.ensures
