use Rattle.std.proofs.Common.{◌≡◌, ◌≤◌, ◌++◌, length, take, drop}
use Rattle.fancy_state.specs.OldValues.{Agrees, values_of}
use Rattle.fancy_state.specs.CellsView.{AreLogged}
use Rattle.fancy_state.proofs.old_values.Cells.join.Given as goal

abbrev pub invariant-join : goal.invariant-join
invariant-join l =
    let s = l.self-inside in
    let now = values_of l.initial.self-inside.values.items in
    record {
      first : l.first ≤ l.kept;
      kept : l.kept ≤ l.next;
      len : length s.log.items ≡ length l.initial.self-inside.log.items;
      values : s.values.items ≡ l.initial.self-inside.values.items;
      logged : AreLogged s;
      agrees : Agrees l.mark l.initial.self-inside.log.items now (take l.kept s.log.items ++ drop l.next s.log.items) now;
    }
