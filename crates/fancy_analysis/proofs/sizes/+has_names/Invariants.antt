use Rattle.std.proofs.Common.{◌≡◌, false, length, take}
use Rattle.std.specs.List.{list_any}
use Rattle.fancy_expr.specs.Exprs.{below, exprs, exprs_of_each}
use Rattle.fancy_analysis.specs.Rounds.{names_one}
use Rattle.fancy_analysis.proofs.sizes.+has_names.Given as goal

abbrev pub decreases-has_names : goal.decreases-has_names
decreases-has_names l = length (exprs l.expr.now)

abbrev pub invariant-loop-i : goal.invariant-loop-i
invariant-loop-i l = list_any names_one (exprs_of_each (take l.i (below l.expr))) ≡ false
