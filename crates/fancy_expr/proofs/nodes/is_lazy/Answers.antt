use Rattle.std.proofs.Common.{refl, sym, ap}
use Rattle.fancy_meaning.specs.AnalysisRefusals.{is_lazy}
use Rattle.fancy_expr.proofs.AbsentTests.{absent_fails}
use Rattle.fancy_expr.specs.Views.{tree_of}
use Rattle.fancy_expr.proofs.nodes.is_lazy.Goals as goal

pub returns-in-Absent : goal.returns-in-Absent
returns-in-Absent c = absent_fails is_lazy (λ x. refl) (λ x y. refl) (λ x. refl) refl _ _ c.in-Absent.is

pub returns-in-Repeat : goal.returns-in-Repeat
returns-in-Repeat c = ap (λ e. is_lazy (tree_of e)) (sym c.in-Repeat.is)
