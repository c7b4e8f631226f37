use Rattle.std.proofs.Common.{refl}
use Rattle.fancy_meaning.specs.Marks.{is_continue}
use Rattle.fancy_expr.proofs.AbsentTests.{absent_fails}
use Rattle.fancy_expr.proofs.nodes.is_continue.Goals as goal

pub returns-in-Absent : goal.returns-in-Absent
returns-in-Absent c = absent_fails is_continue (λ x. refl) (λ x y. refl) (λ x. refl) refl _ _ c.in-Absent.is
