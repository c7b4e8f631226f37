use Rattle.std.proofs.Common.{◌≡◌, length, take, map}
use Rattle.fancy_expr.specs.Views.{tree_of}
use Rattle.fancy_expr.specs.Exprs.{below, exprs, exprs_of_each}
use Rattle.fancy_notation.specs.References.{with_node, with_nodes}
use Rattle.fancy_notation.specs.NotationViews.{referenced_of}
use Rattle.fancy_notation.proofs.references.References.+add_all.Given as goal

abbrev pub decreases-add_all : goal.decreases-add_all
decreases-add_all l = length (exprs l.expr.now)

abbrev pub invariant-loop-i : goal.invariant-loop-i
invariant-loop-i l =
    referenced_of l.self ≡ with_nodes (with_node (referenced_of l.fn.self) (tree_of l.expr)) (map tree_of (exprs_of_each (take l.i (below l.expr))))
