use Rattle.std.proofs.Common.{◌≡◌}
use Rattle.fancy_nfa_laws.specs.NfaSearch as plain
use Rattle.fancy_nfa_laws.specs.NfaSearch.{Next, Search, TakesBack, TakesUp, pair_of}
use Rattle.fancy_backtrack.specs.Memos.{IsHere, IsSearch}
use Rattle.fancy_nfa.specs.Searches.{continuation_of}
use Rattle.fancy_nfa.specs.Runs.{GoesOn}
use Rattle.fancy_nfa.proofs.search.Searcher.find.Given as goal

abbrev pub invariant-steps : goal.invariant-steps
invariant-steps l =
    ((s : plain.NfaConfig) (f : Search) → IsSearch (continuation_of l.fn.self) l.fn.m f → IsHere l.fn.m l.fn.start s →
    GoesOn l.fn.self (TakesUp s f) l.m l.config)
    × (l.m.budget ≡ l.fn.m.budget)
