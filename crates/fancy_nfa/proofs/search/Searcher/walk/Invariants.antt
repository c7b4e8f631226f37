use Rattle.fancy_nfa_laws.specs.NfaSearch.{first_config}
use Rattle.fancy_nfa.specs.OnePass.{Walks, config_at}
use Rattle.fancy_nfa.proofs.search.Searcher.walk.Given as goal

abbrev pub invariant-states : goal.invariant-states
invariant-states l = Walks l.self l.is_sure (first_config l.ix) (config_at (first_config l.ix) l.at l.place)
