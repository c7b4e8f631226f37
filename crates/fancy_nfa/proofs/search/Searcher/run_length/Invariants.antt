use Rattle.std.proofs.Common.{◌≤◌, ◌<◌, ◌-◌, ℕ, length}
use Rattle.fancy_nfa.specs.Runs.{CanPass}
use Rattle.fancy_nfa.proofs.search.Searcher.run_length.Given as goal

abbrev pub invariant-run : goal.invariant-run
invariant-run l =
    (l.config.place ≤ l.end) × ((i : ℕ) → l.config.place ≤ i → i < l.end → CanPass l.self l.m l.test l.config i)

abbrev pub decreases-run : goal.decreases-run
decreases-run l = length l.text - l.end
