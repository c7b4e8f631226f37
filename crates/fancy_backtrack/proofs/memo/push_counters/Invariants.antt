use Rattle.std.proofs.Common.{List}
use Rattle.fancy_nfa_laws.specs.NfaSearch as plain
use Rattle.fancy_nfa_laws.specs.NfaSearch.{Next, Search, TakesBack, TakesUp, pair_of}
use Rattle.fancy_backtrack.specs.Paths.{HasCounters}
use Rattle.fancy_backtrack.proofs.PathLaws.{AreWritten}
use Rattle.fancy_backtrack.proofs.memo.push_counters.Given as goal

abbrev pub invariant-counters : goal.invariant-counters
invariant-counters l = (counters : List plain.LoopCounter) → HasCounters l.fn.trail.entries.items l.fn.config.counters counters →
    AreWritten l.fn.trail.entries.items l.fn.config.place l.fn.numbers.items l.numbers.items l.link counters

abbrev pub decreases-counters : goal.decreases-counters
decreases-counters l = l.link
