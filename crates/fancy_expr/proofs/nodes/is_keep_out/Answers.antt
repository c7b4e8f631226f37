use Rattle.std.proofs.Common.{refl}
use Rattle.fancy_meaning.specs.Nodes.{is_keep_out}
use Rattle.fancy_expr.proofs.AbsentTests.{absent_fails}
use Rattle.fancy_expr.proofs.nodes.is_keep_out.Goals as goal

pub returns-in-Absent : goal.returns-in-Absent
returns-in-Absent c = absent_fails is_keep_out (λ x. refl) (λ x y. refl) (λ x. refl) refl _ _ c.in-Absent.is
