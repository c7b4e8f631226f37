use Rattle.std.proofs.Common.{map, take}
use Rattle.fancy_expr.specs.Views.{tree_of}
use Rattle.fancy_literals.specs.Takes.{AreRead}
use Rattle.fancy_literals.proofs.required.+taken.Given as goal

abbrev pub invariant-taken_by_parts-loop-part : goal.invariant-taken_by_parts-loop-part
invariant-taken_by_parts-loop-part l = AreRead l.behind l.literals (map tree_of (take l.part-index l.parts))
