use Rattle.std.proofs.Common.{◌≡◌, false, replicate}
use Rattle.fancy_compile.proofs.group_table.no_marks.Given as goal

abbrev pub invariant-loop-i : goal.invariant-loop-i
invariant-loop-i l = l.marks.items ≡ replicate l.i false
