use Rattle.std.proofs.Common.{codes, refl}
use Rattle.fancy_expr.specs.Texts as texts
use Rattle.fancy_expr.proofs.AbsentTests.{absent_same}
use Rattle.fancy_expr.proofs.text.bracket.Goals as goal

pub returns-in-Absent : goal.returns-in-Absent
returns-in-Absent c = absent_same texts.bracket (codes "(?:") (λ x. refl) (λ x y. refl) (λ x. refl) refl _ _ c.in-Absent.is
