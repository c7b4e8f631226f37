use Rattle.std.proofs.Common.{refl, sym, ap}
use Rattle.fancy_expr.specs.Questions.{is_refused}
use Rattle.fancy_expr.proofs.AbsentTests.{absent_fails}
use Rattle.fancy_expr.specs.Views.{tree_of}
use Rattle.fancy_expr.proofs.nodes.is_refused.Goals as goal

pub returns-in-Absent : goal.returns-in-Absent
returns-in-Absent c = absent_fails (is_refused c.args.first c.args.last) (λ x. refl) (λ x y. refl) (λ x. refl) refl _ _ c.in-Absent.is

pub returns-in-BackrefWithRelativeRecursionLevel : goal.returns-in-BackrefWithRelativeRecursionLevel
returns-in-BackrefWithRelativeRecursionLevel c = ap (λ e. is_refused c.args.first c.args.last (tree_of e)) (sym c.in-BackrefWithRelativeRecursionLevel.is)

pub returns-in-AstNode : goal.returns-in-AstNode
returns-in-AstNode c = ap (λ e. is_refused c.args.first c.args.last (tree_of e)) (sym c.in-AstNode.is)
