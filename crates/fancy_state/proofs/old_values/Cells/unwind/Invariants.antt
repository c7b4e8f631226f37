use Rattle.std.proofs.Common.{◌≡◌, ◌≤◌, length}
use Rattle.fancy_state.specs.OldValues.{Agrees, values_of}
use Rattle.fancy_state.specs.CellsView.{AreLogged}
use Rattle.fancy_state.proofs.old_values.Cells.unwind.Given as goal

abbrev pub invariant-undo : goal.invariant-undo
invariant-undo l =
    let s = l.self-inside in
    record {
      mark : l.mark ≤ length s.log.items;
      values : length s.values.items ≡ length l.initial.self-inside.values.items;
      logged : AreLogged s;
      agrees : Agrees l.mark l.initial.self-inside.log.items (values_of l.initial.self-inside.values.items) s.log.items (values_of s.values.items);
    }

abbrev pub decreases-undo : goal.decreases-undo
decreases-undo l = length l.self-inside.log.items
