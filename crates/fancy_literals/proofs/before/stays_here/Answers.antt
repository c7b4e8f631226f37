use Rattle.std.proofs.Common.{ap, subst, sym}
use Rattle.fancy_meaning.specs.Tree.{NoLook}
use Rattle.fancy_expr.specs.Views.{look_of, tree_of}
use Rattle.fancy_literals.specs.Befores.{StaysHere}
use Rattle.fancy_literals.proofs.BeforeLaws.{assert_stays, empty_stays, keep_stays, look_stays}
use Rattle.fancy_literals.proofs.before.stays_here.Goals as goal

pub returns-in-Empty : goal.returns-in-Empty
returns-in-Empty c is = subst StaysHere (sym (ap tree_of c.in-Empty.is)) empty_stays

pub returns-in-KeepOut : goal.returns-in-KeepOut
returns-in-KeepOut c is = subst StaysHere (sym (ap tree_of c.in-KeepOut.is)) keep_stays

pub returns-in-Assertion : goal.returns-in-Assertion
returns-in-Assertion c is = subst StaysHere (sym (ap tree_of c.in-Assertion.is)) (assert_stays NoLook _)

pub returns-in-LookAround : goal.returns-in-LookAround
returns-in-LookAround c is = subst StaysHere (sym (ap tree_of c.in-LookAround.is)) (look_stays (look_of c.in-LookAround.field-1) (tree_of c.in-LookAround.field-0.value))
