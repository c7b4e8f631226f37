use Rattle.std.proofs.Common.{◌≡◌, drop}
use Rattle.fancy_nfa.specs.FirstSets.{may_begin}
use Rattle.fancy_nfa.proofs.first_sets.may_begin.Given as goal

abbrev pub invariant-levels : goal.invariant-levels
invariant-levels l = may_begin (drop l.level-index l.levels) l.text l.place ≡ may_begin l.fn.levels l.fn.text l.fn.ix
