use Rattle.std.proofs.Common.{◌≡◌, ◌+◌, length}
use Rattle.std.specs.List.{sum_by}
use Rattle.fancy_analysis.specs.Reached.{HasRoom}
use Rattle.fancy_analysis.proofs.SearchSteps.{IsReaching}
use Rattle.fancy_analysis.proofs.reached.reached.Given as goal

abbrev pub invariant-loop-number : goal.invariant-loop-number
invariant-loop-number l = record {
  same_length : length l.flags.items ≡ length l.ways.items;
  room : HasRoom l.links l.flags.items;
  reaching : IsReaching l.links l.ways.items l.flags.items l.next.items;
}

abbrev pub decreases-loop-number : goal.decreases-loop-number
decreases-loop-number l = sum_by (λ v. length v.items) l.ways.items + length l.next.items
