use Rattle.std.proofs.Common.{false, refl}
use Rattle.fancy_expr.proofs.AbsentTests.{absent_same}
use Rattle.fancy_fragments.specs.Settable.{is_way_in}
use Rattle.fancy_fragments.proofs.settable.is_way_in.Goals as goal

pub returns-in-Absent : goal.returns-in-Absent
returns-in-Absent c = absent_same is_way_in false (λ x. refl) (λ x y. refl) (λ x. refl) refl _ _ c.in-Absent.is
