use Rattle.std.proofs.Common.{◌≤◌, ◌+◌}
use Rattle.fancy_faults.proofs.Described.{IsPast}
use Rattle.fancy_faults.proofs.finder.described_at.Given as goal

abbrev pub invariant-loop-at : goal.invariant-loop-at
invariant-loop-at l = record {
  few : l.next ≤ l.at + 1;
  past : IsPast l.text l.first l.nodes l.at l.next;
}
