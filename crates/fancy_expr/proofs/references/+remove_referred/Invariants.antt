use Rattle.std.proofs.Common.{◌≡◌, ℕ, ◌∷◌, take, length}
use Rattle.std.specs.BTreeSet.{contains}
use Rattle.std.specs.Ordering.{nat_cmp}
use Rattle.fancy_expr.specs.Exprs.{below, exprs, exprs_of_each}
use Rattle.fancy_expr.proofs.Referred.{remains}
use Rattle.fancy_expr.proofs.references.+remove_referred.Given as goal

abbrev pub decreases-remove_referred : goal.decreases-remove_referred
decreases-remove_referred l = length (exprs l.expr.now)

abbrev pub invariant-loop-i : goal.invariant-loop-i
invariant-loop-i l = (g : ℕ) → contains nat_cmp l.pending g ≡ remains (contains nat_cmp l.fn.pending g) g (l.expr ∷ exprs_of_each (take l.i (below l.expr)))
