use Rattle.fancy_host.proofs.NamedGroups.{IsLeft}
use Rattle.fancy_host.proofs.names.name_of.Given as goal

abbrev pub invariant-loop-name : goal.invariant-loop-name
invariant-loop-name l = IsLeft l.group l.names.entries l.name-iterator
