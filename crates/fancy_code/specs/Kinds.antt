-- Which nodes are written by themselves, and which have no slot.
use Rattle.std.specs.Prelude.{◌^◌, Bool, true, false, nat_le}
use Rattle.fancy_meaning.specs.Tree.{Tree, Backref}
use Rattle.fancy_expr.specs.declared.expr.Expr.{Expr}
use Rattle.fancy_expr.specs.declared.expr.Expr.TheVariants as code

-- the slot of the group has no number; no accepted tree has such a reference
abbrev pub is_out_of_range : Tree → Bool
is_out_of_range (Backref g casei) = nat_le (2 ^ 63) g
is_out_of_range e = false

-- no other node is written with it
abbrev pub is_leaf : Expr → Bool
is_leaf (code.Concat' shape es) = false
is_leaf (code.Alt' shape es) = false
is_leaf (code.Group' b e) = false
is_leaf (code.LookAround' b e look) = false
is_leaf (code.Repeat' b e lo hi greedy) = false
is_leaf (code.AtomicGroup' b e) = false
is_leaf (code.Conditional' b c d t x f) = false
is_leaf (code.Absent a) = false
is_leaf (code.SubroutineCall g) = false
is_leaf (code.Assertion a) = false
is_leaf e = true
