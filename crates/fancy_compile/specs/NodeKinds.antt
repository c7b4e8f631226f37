-- Kinds of nodes that are looked for in a tree.
use Rattle.std.specs.Prelude.{Bool, true, false}
use Rattle.fancy_meaning.specs.Tree.{Tree}
use Rattle.fancy_meaning.specs.Nodes.{is_absent, is_keep_out}
use Rattle.fancy_expr.specs.declared.expr.Expr.{Expr}
use Rattle.fancy_expr.specs.declared.expr.Expr.TheVariants as code
use Rattle.fancy_compile.specs.declared.below.NodeKind.{NodeKind}
use Rattle.fancy_compile.specs.declared.below.NodeKind.TheVariants as kind

-- the expression is an absent operator
abbrev pub is_absent_expr : Expr → Bool
is_absent_expr (code.Absent a) = true
is_absent_expr e = false

-- the expression is a `\K`
abbrev pub is_keep_out_expr : Expr → Bool
is_keep_out_expr code.KeepOut = true
is_keep_out_expr e = false

abbrev pub is_of_kind_expr : NodeKind → Expr → Bool
is_of_kind_expr kind.AbsentNode = is_absent_expr
is_of_kind_expr kind.KeepOutNode = is_keep_out_expr

-- the node is of this kind
abbrev pub is_of_kind : NodeKind → Tree → Bool
is_of_kind kind.AbsentNode = is_absent
is_of_kind kind.KeepOutNode = is_keep_out
