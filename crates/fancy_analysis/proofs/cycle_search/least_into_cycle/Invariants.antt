use Rattle.std.proofs.Common.{◌≡◌, ◌<◌, ℕ, true, []}
use Rattle.fancy_analysis.specs.Reached.{IsSearching, LeadsIntoCycle, flag}
use Rattle.fancy_analysis.proofs.cycle_search.least_into_cycle.Given as goal

abbrev pub invariant-loop-number : goal.invariant-loop-number
invariant-loop-number l = record {
  searching : IsSearching l.links 0 l.search;
  idle : l.search.path.items ≡ [];
  none : (m : ℕ) → m < l.number → flag l.reached.items m ≡ true → ¬ LeadsIntoCycle l.links m;
}
