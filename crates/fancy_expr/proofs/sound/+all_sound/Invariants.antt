use Rattle.std.proofs.Common.{All, take, length}
use Rattle.fancy_expr.specs.Exprs.{below, exprs, exprs_of_each}
use Rattle.fancy_expr.specs.Sound.{IsSoundNode}
use Rattle.fancy_expr.proofs.sound.+all_sound.Given as goal

abbrev pub decreases-all_sound : goal.decreases-all_sound
decreases-all_sound l = length (exprs l.expr.now)

abbrev pub invariant-loop-i : goal.invariant-loop-i
invariant-loop-i l = All IsSoundNode (exprs_of_each (take l.i (below l.expr)))
