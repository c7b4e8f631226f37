use Rattle.std.proofs.Common.{map}
use Rattle.fancy_nfa.specs.FirstSets.{AreLevels}
use Rattle.fancy_nfa.specs.Views.{state_of}
use Rattle.fancy_nfa.proofs.first_sets.levels_from.Given as goal

abbrev pub invariant-levels : goal.invariant-levels
invariant-levels l = AreLevels l.fn.unicode (map state_of l.fn.states) l.fn.first.items l.levels.items l.reached.items
