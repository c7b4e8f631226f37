use Rattle.std.proofs.Common.{◌≡◌, true}
use Rattle.fancy_analysis.specs.Reached.{IsSearching, left_in, flag}
use Rattle.fancy_analysis.proofs.cycle_search.CycleSearch.finds_cycle.Given as goal

abbrev pub invariant-loop-number : goal.invariant-loop-number
invariant-loop-number l = record {
  searching : IsSearching l.links l.start l.self;
  seen : flag l.self.seen.items l.start ≡ true;
}

abbrev pub decreases-loop-number : goal.decreases-loop-number
decreases-loop-number l = left_in l.self
