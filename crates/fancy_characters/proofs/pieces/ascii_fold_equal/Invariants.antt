use Rattle.std.proofs.Common.{◌≡◌, drop}
use Rattle.std.specs.Char.{eq_ignore_ascii_case}
use lib.Pointwise.{pointwise}
use Rattle.fancy_characters.proofs.pieces.ascii_fold_equal.Given as goal

abbrev pub invariant-loop-i : goal.invariant-loop-i
invariant-loop-i l = pointwise eq_ignore_ascii_case (drop l.i l.a) (drop l.i l.b) ≡ pointwise eq_ignore_ascii_case l.a l.b
