use Rattle.std.proofs.Common.{sym}
use Rattle.fancy_state.specs.OldValues.{values_of}
use Rattle.fancy_state.proofs.CellLaws.{length-slots}
use Rattle.fancy_state.proofs.state.State.slot_count.Goals as goal

pub returns : goal.returns
returns c =
    let s = c.self.inside in
    rw (← c.self.view_is) (sym (length-slots s.slot_count (values_of s.cells.values)))
