use Rattle.std.proofs.Common.{None, sym, ap, refl}
use Rattle.fancy_meaning.specs.Nodes.{read_by}
use Rattle.fancy_expr.specs.Views.{tree_of}
use Rattle.fancy_expr.proofs.AbsentTests.{absent_same}
use Rattle.fancy_analysis.proofs.reads.read_by.Goals as goal

pub returns-in-Absent : goal.returns-in-Absent
returns-in-Absent c = absent_same read_by None (λ x. refl) (λ x y. refl) (λ x. refl) refl _ _ c.in-Absent.is

pub returns-in-Backref : goal.returns-in-Backref
returns-in-Backref c = ap (λ x. read_by (tree_of x)) (sym c.in-Backref.is)

pub returns-in-BackrefExistsCondition : goal.returns-in-BackrefExistsCondition
returns-in-BackrefExistsCondition c = ap (λ x. read_by (tree_of x)) (sym c.in-BackrefExistsCondition.is)
