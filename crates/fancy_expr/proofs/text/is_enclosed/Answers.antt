use Rattle.std.proofs.Common.{false, refl, sym, ap}
use Rattle.fancy_expr.specs.Texts as texts
use Rattle.fancy_expr.proofs.AbsentTests.{absent_same}
use Rattle.fancy_expr.specs.Views.{tree_of}
use Rattle.fancy_expr.proofs.text.is_enclosed.Goals as goal

pub returns-in-Absent : goal.returns-in-Absent
returns-in-Absent c = absent_same (λ t. texts.is_enclosed t c.args.precedence) false (λ x. refl) (λ x y. refl) (λ x. refl) refl _ _ c.in-Absent.is

pub returns-in-Literal : goal.returns-in-Literal
returns-in-Literal c = ap (λ e. texts.is_enclosed (tree_of e) c.args.precedence) (sym c.in-Literal.is)

pub returns-in-Delegate : goal.returns-in-Delegate
returns-in-Delegate c = ap (λ e. texts.is_enclosed (tree_of e) c.args.precedence) (sym c.in-Delegate.is)

pub returns-in-Concat : goal.returns-in-Concat
returns-in-Concat c = ap (λ e. texts.is_enclosed (tree_of e) c.args.precedence) (sym c.in-Concat.is)

pub returns-in-Alt : goal.returns-in-Alt
returns-in-Alt c = ap (λ e. texts.is_enclosed (tree_of e) c.args.precedence) (sym c.in-Alt.is)

pub returns-in-Group : goal.returns-in-Group
returns-in-Group c = ap (λ e. texts.is_enclosed (tree_of e) c.args.precedence) (sym c.in-Group.is)

pub returns-in-Repeat : goal.returns-in-Repeat
returns-in-Repeat c = ap (λ e. texts.is_enclosed (tree_of e) c.args.precedence) (sym c.in-Repeat.is)
