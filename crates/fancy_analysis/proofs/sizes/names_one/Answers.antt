use Rattle.std.proofs.Common.{refl}
use Rattle.std.specs.Option.{is_some}
use Rattle.fancy_analysis.specs.Rounds.{named_by}
use Rattle.fancy_expr.proofs.AbsentTests.{absent_fails}
use Rattle.fancy_analysis.proofs.sizes.names_one.Goals as goal

pub returns-in-Absent : goal.returns-in-Absent
returns-in-Absent c = absent_fails (λ t. is_some (named_by t)) (λ x. refl) (λ x y. refl) (λ x. refl) refl _ _ c.in-Absent.is
