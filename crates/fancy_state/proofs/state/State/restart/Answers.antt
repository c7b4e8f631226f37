use Rattle.std.proofs.Common.{arith}
use Rattle.fancy_state.specs.OldValues.{values_of}
use Rattle.fancy_state.proofs.CellLaws.{length-slots}
use Rattle.fancy_state.proofs.StateLaws.{first_view}
use Rattle.fancy_state.proofs.state.State.restart.Goals as goal

pub restart-requires : goal.restart-requires
restart-requires c =
    let s = c.self.inside in
    omega (arith, c.self.invariant.room)

pub returns : goal.returns
returns c =
    let s = c.self.inside in
    rw (← c.self.view_is, length-slots s.slot_count (values_of s.cells.values), c.restart.ensures, c.clear.ensures.items)
    (first_view s.slot_count c.args.max_stack)
