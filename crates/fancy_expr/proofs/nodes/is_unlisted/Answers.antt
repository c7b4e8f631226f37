use Rattle.std.proofs.Common.{refl}
use Rattle.fancy_expr.specs.Questions.{is_unlisted}
use Rattle.fancy_expr.proofs.AbsentTests.{absent_fails}
use Rattle.fancy_expr.proofs.nodes.is_unlisted.Goals as goal

pub returns-in-Absent : goal.returns-in-Absent
returns-in-Absent c = absent_fails (is_unlisted c.args.listed.now.keys c.args.groups) (λ x. refl) (λ x y. refl) (λ x. refl) refl _ _ c.in-Absent.is
