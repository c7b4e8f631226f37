use Rattle.fancy_nfa.proofs.FirstSetLaws.{AreWithin}
use Rattle.fancy_nfa.proofs.first_sets.level_between.Given as goal

abbrev pub invariant-states : goal.invariant-states
invariant-states l = AreWithin l.fn.unicode l.fn.states l.fn.reached l.fn.after l.set l.at
