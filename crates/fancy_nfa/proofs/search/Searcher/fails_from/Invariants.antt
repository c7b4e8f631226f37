use Rattle.fancy_nfa.specs.Runs.{FailsFrom}
use Rattle.fancy_nfa.proofs.search.Searcher.fails_from.Given as goal

abbrev pub invariant-branches : goal.invariant-branches
invariant-branches l = FailsFrom l.self l.at l.place → FailsFrom l.self l.from l.place
