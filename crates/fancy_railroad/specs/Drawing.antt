-- Which trees are drawn.
use Rattle.std.specs.Prelude.{ℕ, ◌<◌, length}
use Rattle.fancy_expr.specs.declared.expr.Expr.{Expr}
use Rattle.fancy_expr.specs.Exprs.{exprs}
use Rattle.fancy_railroad.specs.declared.draw.DrawError.{DrawError}
use Rattle.fancy_railroad.specs.declared.draw.DrawError.TheVariants.{TooLarge, Memory}

-- how many nodes a tree has
abbrev pub node_count : Expr → ℕ
node_count e = length (exprs e)

-- how many nodes a tree may have that is drawn
abbrev pub most_nodes : ℕ
most_nodes = 2000

-- why a tree is not drawn: it is too large, or memory ran out, which says nothing of the tree
abbrev pub IsRefusedFor : Expr → DrawError → Type 0
IsRefusedFor e TooLarge = most_nodes < node_count e
IsRefusedFor e Memory = Unit {0}
