-- Which expressions hold no other.
use Rattle.std.specs.Prelude.{Bool, true, false}
use Rattle.fancy_expr.specs.declared.expr.Expr.{Expr}
use Rattle.fancy_expr.specs.declared.expr.Expr.TheVariants as code

abbrev pub holds_none : Expr → Bool
holds_none (code.Concat' shape es) = false
holds_none (code.Alt' shape es) = false
holds_none (code.Group' b e) = false
holds_none (code.LookAround' b e look) = false
holds_none (code.Repeat' b e lo hi greedy) = false
holds_none (code.AtomicGroup' b e) = false
holds_none (code.Conditional' b c d t x f) = false
holds_none (code.Absent a) = false
holds_none (code.DefineGroup' b e) = false
holds_none e = true

-- nor a text
abbrev pub is_bare : Expr → Bool
is_bare (code.Literal val casei) = false
is_bare (code.LiteralBytes bytes) = false
is_bare (code.Delegate inner casei) = false
is_bare (code.AstNode n at) = false
is_bare e = holds_none e
