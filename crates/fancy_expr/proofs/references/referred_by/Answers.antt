use Rattle.std.proofs.Common.{refl, sym, ap}
use Rattle.fancy_meaning.specs.WellFormed.{refers}
use Rattle.fancy_expr.specs.Views.{tree_of}
use Rattle.fancy_expr.proofs.AbsentTests.{absent_fails}
use Rattle.fancy_expr.proofs.references.referred_by.Goals as goal

pub returns-in-Absent : goal.returns-in-Absent
returns-in-Absent c = λ g. sym (absent_fails (refers g) (λ x. refl) (λ x y. refl) (λ x. refl) refl _ _ c.in-Absent.is)

pub returns-in-Backref : goal.returns-in-Backref
returns-in-Backref c = λ g. ap (λ e. refers g (tree_of e)) c.in-Backref.is

pub returns-in-BackrefWithRelativeRecursionLevel : goal.returns-in-BackrefWithRelativeRecursionLevel
returns-in-BackrefWithRelativeRecursionLevel c = λ g. ap (λ e. refers g (tree_of e)) c.in-BackrefWithRelativeRecursionLevel.is

pub returns-in-BackrefExistsCondition : goal.returns-in-BackrefExistsCondition
returns-in-BackrefExistsCondition c = λ g. ap (λ e. refers g (tree_of e)) c.in-BackrefExistsCondition.is
