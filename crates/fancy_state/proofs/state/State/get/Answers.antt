use Rattle.std.proofs.Common.{reverse, arith, ◌∙◌}
use Rattle.fancy_state.specs.OldValues.{values_of}
use Rattle.fancy_state.proofs.CellLaws.{slot_at}
use Rattle.fancy_state.proofs.StateLaws.{held_is, slot_less, slot_there}
use Rattle.fancy_state.proofs.state.State.get.Goals as goal

pub get-requires : goal.get-requires
get-requires c =
    let s = c.self.inside in
    let bs = reverse s.branches.items in
    let less = slot_less s.slot_count s.cells.values s.cells.log bs s.max_stack c.args.slot c.args.self.now.held (held_is c.self.view_is) c.requires in
    slot_there s.slot_count s.cells.values s.cells.log bs c.args.slot c.self.invariant (omega (arith, less))

pub returns : goal.returns
returns c =
    let s = c.self.inside in
    let bs = reverse s.branches.items in
    let less = slot_less s.slot_count s.cells.values s.cells.log bs s.max_stack c.args.slot c.args.self.now.held (held_is c.self.view_is) c.requires in
    rw (← c.self.view_is) (c.get.ensures.value ∙ slot_at s.slot_count (values_of s.cells.values) c.args.slot less)
