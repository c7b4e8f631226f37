-- Absent nodes pass no test that is asked of nodes.
use Rattle.std.proofs.Common.{◌≡◌, Bool, false, sym, ap, ◌∙◌}
use Rattle.fancy_meaning.specs.Tree as plain
use Rattle.fancy_meaning.specs.Tree.{Tree}
use Rattle.fancy_expr.specs.declared.expr.Expr.{Expr}
use Rattle.fancy_expr.specs.declared.expr.Expr.TheVariants as code
use Rattle.fancy_expr.specs.declared.expr.Absent.{Absent}
use Rattle.fancy_expr.specs.declared.expr.Absent.TheVariants as code_absent
use Rattle.fancy_expr.specs.Views.{tree_of, absent_of}

module _ (f : Tree → Bool) (repeater : (x : Tree) → f (plain.AbsentRepeater x) ≡ false) (expression : (x y : Tree) → f (plain.AbsentExpression x y) ≡ false)
    (stopper : (x : Tree) → f (plain.AbsentStopper x) ≡ false) (clear : f plain.AbsentClear ≡ false) where
  fails : (a : Absent) → f (absent_of a) ≡ false
  fails (code_absent.Repeater' b y) = repeater _
  fails (code_absent.Expression' b y d z) = expression _ _
  fails (code_absent.Stopper' b y) = stopper _
  fails code_absent.Clear = clear

  pub absent_fails : (e : Expr) (a : Absent) → e ≡ code.Absent a → false ≡ f (tree_of e)
  absent_fails e a is = sym (ap (λ x. f (tree_of x)) is ∙ fails a)

-- what is the same of all absent nodes
module _ {X : Type 0} (f : Tree → X) (x : X) (repeater : (y : Tree) → f (plain.AbsentRepeater y) ≡ x)
    (expression : (y z : Tree) → f (plain.AbsentExpression y z) ≡ x) (stopper : (y : Tree) → f (plain.AbsentStopper y) ≡ x)
    (clear : f plain.AbsentClear ≡ x) where
  same : (a : Absent) → f (absent_of a) ≡ x
  same (code_absent.Repeater' b y) = repeater _
  same (code_absent.Expression' b y d z) = expression _ _
  same (code_absent.Stopper' b y) = stopper _
  same code_absent.Clear = clear

  pub absent_same : (e : Expr) (a : Absent) → e ≡ code.Absent a → x ≡ f (tree_of e)
  absent_same e a is = sym (ap (λ y. f (tree_of y)) is ∙ same a)
