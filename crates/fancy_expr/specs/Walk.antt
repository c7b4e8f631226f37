-- What a walk down a tree carries along: the innermost look-around, and the number of the next group.
use Rattle.std.specs.Prelude.{ℕ, suc}
use Rattle.fancy_meaning.specs.Tree as plain
use Rattle.fancy_meaning.specs.Numbering.{within}
use Rattle.fancy_expr.specs.declared.expr.Expr.{Expr}
use Rattle.fancy_expr.specs.declared.expr.Expr.TheVariants as code
use Rattle.fancy_expr.specs.declared.walk.Within.{Within}
use Rattle.fancy_expr.specs.declared.walk.Within.TheVariants as code_within
use Rattle.fancy_expr.specs.Views.{look_of}

abbrev pub within_of : Within → plain.Within
within_of code_within.NoLook = plain.NoLook
within_of code_within.InLookAhead = plain.InLookAhead
within_of code_within.InLookBehind = plain.InLookBehind

-- the number of the first group below a node
abbrev pub start_inside : Expr → ℕ → ℕ
start_inside (code.Group' b e) n = suc n
start_inside e n = n

-- the look-around around the children of a node
abbrev pub within_inside : Expr → plain.Within → plain.Within
within_inside (code.LookAround' b e look) w = within (look_of look)
within_inside e w = w
