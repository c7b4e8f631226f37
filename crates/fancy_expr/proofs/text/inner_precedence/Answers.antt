use Rattle.std.proofs.Common.{refl}
use Rattle.fancy_expr.specs.Texts as texts
use Rattle.fancy_expr.proofs.AbsentTests.{absent_same}
use Rattle.fancy_expr.proofs.text.inner_precedence.Goals as goal

pub returns-in-Absent : goal.returns-in-Absent
returns-in-Absent c = absent_same texts.inner_precedence 0 (λ x. refl) (λ x y. refl) (λ x. refl) refl _ _ c.in-Absent.is
