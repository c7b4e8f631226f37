-- Whether a node is of a kind that is looked for, seen from its expression.
use Rattle.std.proofs.Common.{◌≡◌, ℕ, true, false, refl}
use Rattle.fancy_meaning.specs.Tree.{Trees, Within}
use Rattle.fancy_meaning.specs.Nodes.{is_absent, is_keep_out}
use Rattle.fancy_expr.specs.declared.expr.Absent.{Absent}
use Rattle.fancy_expr.specs.declared.expr.Absent.TheVariants as code_absent
use Rattle.fancy_expr.specs.declared.expr.Expr.{Expr}
use Rattle.fancy_expr.specs.declared.expr.Expr.TheVariants as code
use Rattle.fancy_info.specs.Infos.{node_over, absent_over}
use Rattle.fancy_compile.specs.declared.below.NodeKind.{NodeKind}
use Rattle.fancy_compile.specs.declared.below.NodeKind.TheVariants as kind
use Rattle.fancy_compile.specs.NodeKinds.{is_absent_expr, is_keep_out_expr, is_of_kind, is_of_kind_expr}

module _ (es : Trees) (n : ℕ) (w : Within) where
  absent_is : (a : Absent) → is_absent (absent_over a es) ≡ true
  absent_is (code_absent.Repeater' b e) = refl
  absent_is (code_absent.Expression' b a c e) = refl
  absent_is (code_absent.Stopper' b e) = refl
  absent_is code_absent.Clear = refl

  absent_is_no_keep_out : (a : Absent) → is_keep_out (absent_over a es) ≡ false
  absent_is_no_keep_out (code_absent.Repeater' b e) = refl
  absent_is_no_keep_out (code_absent.Expression' b a c e) = refl
  absent_is_no_keep_out (code_absent.Stopper' b e) = refl
  absent_is_no_keep_out code_absent.Clear = refl

  over_absent : (e : Expr) → is_absent (node_over e n w es) ≡ is_absent_expr e
  over_absent (code.Absent a) = absent_is a
  over_absent e = refl

  over_keep_out : (e : Expr) → is_keep_out (node_over e n w es) ≡ is_keep_out_expr e
  over_keep_out (code.Absent a) = absent_is_no_keep_out a
  over_keep_out e = refl

  pub over_kind : (k : NodeKind) (e : Expr) → is_of_kind k (node_over e n w es) ≡ is_of_kind_expr k e
  over_kind kind.AbsentNode = over_absent
  over_kind kind.KeepOutNode = over_keep_out
