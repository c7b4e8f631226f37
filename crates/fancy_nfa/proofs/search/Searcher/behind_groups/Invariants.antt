use Rattle.std.proofs.Common.{ℕ, ◌-◌, length}
use Rattle.fancy_nfa.specs.Runs.{FailsFrom}
use Rattle.fancy_nfa.proofs.search.Searcher.behind_groups.Given as goal

abbrev pub invariant-groups : goal.invariant-groups
invariant-groups l = (place : ℕ) → FailsFrom l.self l.next place → FailsFrom l.self l.at place

abbrev pub decreases-groups : goal.decreases-groups
decreases-groups l = length (l.self.states).now - l.next
