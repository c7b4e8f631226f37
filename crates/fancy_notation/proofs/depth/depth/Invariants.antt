use Rattle.std.proofs.Common.{length}
use Rattle.fancy_notation.proofs.Nesting.{Nests}
use Rattle.fancy_notation.proofs.depth.depth.Given as goal

abbrev pub invariant-loop-c : goal.invariant-loop-c
invariant-loop-c l = Nests l.text l.mode l.nesting l.most (length l.yielded)
