use Rattle.fancy_regex.proofs.NamedGroups.{IsLeft}
use Rattle.fancy_regex.proofs.names.GroupNames.name_of.Given as goal

abbrev pub invariant-loop-name : goal.invariant-loop-name
invariant-loop-name l = IsLeft l.group l.self.numbers.entries l.name-iterator
