use Rattle.std.proofs.Common.{length, ◌≤◌, ◌-◌}
use Rattle.fancy_nfa.specs.OnePass.{RunsOn}
use Rattle.fancy_nfa.proofs.search.Searcher.skip_all.Given as goal

abbrev pub invariant-run : goal.invariant-run
invariant-run l = (l.from ≤ l.place) × RunsOn l.self l.test l.from l.place

abbrev pub decreases-run : goal.decreases-run
decreases-run l = length (l.self.text).now - l.place
