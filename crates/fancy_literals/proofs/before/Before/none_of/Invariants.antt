use Rattle.fancy_literals.proofs.BeforeLaws.{LeavesOut}
use Rattle.fancy_literals.proofs.before.Before.none_of.Given as goal

abbrev pub invariant-ascii : goal.invariant-ascii
invariant-ascii l = LeavesOut l.fn.characters l.bytes
