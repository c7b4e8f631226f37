use Rattle.fancy_nfa_laws.specs.NfaSearch.{NfaConfig, first_config}
use Rattle.fancy_nfa.specs.GroupSpans.{AreGroupsOf}
use Rattle.fancy_nfa.specs.OnePass.{Walks, config_at}
use Rattle.fancy_nfa.proofs.search.Searcher.walk_groups.Given as goal

abbrev pub invariant-states : goal.invariant-states
invariant-states l = (s : NfaConfig) × (Walks l.self l.is_sure (first_config l.ix) (config_at s l.at l.here) × AreGroupsOf l.groups s.opened s.spans)
