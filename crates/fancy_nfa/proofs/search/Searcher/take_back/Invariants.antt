use Rattle.std.proofs.Common.{◌≡◌, length}
use Rattle.fancy_nfa_laws.specs.NfaSearch.{Search, TakesBack}
use Rattle.fancy_backtrack.specs.BacktrackStack.{choices_of}
use Rattle.fancy_nfa.specs.Searches.{continuation_of}
use Rattle.fancy_backtrack.specs.Memos.{IsSearch}
use Rattle.fancy_nfa.proofs.BackLaws.{IsBack}
use Rattle.fancy_nfa.proofs.search.Searcher.take_back.Given as goal

abbrev pub invariant-frames : goal.invariant-frames
invariant-frames l =
    ((f : Search) → IsSearch (continuation_of l.fn.self) l.fn.m f → IsBack l.fn.self l.m (TakesBack f))
    × (l.m.budget ≡ l.fn.m.budget)

abbrev pub decreases-frames : goal.decreases-frames
decreases-frames l = length (choices_of l.m.frames)
