use Rattle.std.proofs.Common.{◌≡◌, ◌≤◌, length, take, reverse}
use Rattle.fancy_state.specs.Held.{below}
use Rattle.fancy_state.specs.OldValues.{values_of, held_branches}
use Rattle.fancy_state.proofs.state.State.count_before.Given as goal

abbrev pub invariant-loop-count : goal.invariant-loop-count
invariant-loop-count l =
    let s = l.self-inside in
    record {
      inside : l.count ≤ length s.branches.items;
      same : below l.pc (held_branches s.slot_count s.cells.log (values_of s.cells.values) (reverse (take l.count s.branches.items)))
          ≡ below l.pc (held_branches s.slot_count s.cells.log (values_of s.cells.values) (reverse s.branches.items));
    }

abbrev pub decreases-loop-count : goal.decreases-loop-count
decreases-loop-count l = l.count
