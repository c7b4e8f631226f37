use Rattle.std.proofs.Common.{◌≡◌, ◌+◌, ◌*◌, map, take, length}
use Rattle.fancy_expr.specs.Exprs.{exprs, exprs_in_absent, exprs_of_each}
use Rattle.fancy_expr.specs.Views.{tree_of}
use Rattle.fancy_fragments.proofs.copies.+copying.Given as goal

abbrev pub decreases-copy_of : goal.decreases-copy_of
decreases-copy_of l = 3 * length (exprs l.expr.now) + 1

abbrev pub decreases-boxed_copy : goal.decreases-boxed_copy
decreases-boxed_copy l = 3 * length (exprs l.expr.now) + 2

abbrev pub decreases-copies_of : goal.decreases-copies_of
decreases-copies_of l = 3 * length (exprs_of_each l.exprs.now) + 2

abbrev pub decreases-copy_of_absent : goal.decreases-copy_of_absent
decreases-copy_of_absent l = 3 * length (exprs_in_absent l.absent.now) + 3

abbrev pub invariant-copies_of-loop-expr : goal.invariant-copies_of-loop-expr
invariant-copies_of-loop-expr l = map tree_of l.copies.items ≡ map tree_of (take l.expr-index l.exprs)
