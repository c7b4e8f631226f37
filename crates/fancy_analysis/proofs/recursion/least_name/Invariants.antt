use Rattle.fancy_analysis.proofs.LeastNames.{IsLeft}
use Rattle.fancy_analysis.proofs.recursion.least_name.Given as goal

abbrev pub invariant-loop-name : goal.invariant-loop-name
invariant-loop-name l = IsLeft l.group l.names.entries l.name-iterator
