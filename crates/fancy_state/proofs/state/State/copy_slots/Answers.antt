use Rattle.std.proofs.Common.{reverse, arith, ◌∙◌}
use Rattle.fancy_state.proofs.CellLaws.{slots_first}
use Rattle.fancy_state.proofs.StateLaws.{held_is, slots_enough, slot_there}
use Rattle.fancy_state.proofs.state.State.copy_slots.Goals as goal

pub copy_first-requires : goal.copy_first-requires
copy_first-requires c =
    let s = c.self.inside in
    let bs = reverse s.branches.items in
    let less = slots_enough s.slot_count s.cells.values s.cells.log bs s.max_stack c.args.count c.args.self.now.held (held_is c.self.view_is) c.requires in
    omega (arith, slot_there s.slot_count s.cells.values s.cells.log bs c.args.count c.self.invariant less)

pub returns : goal.returns
returns c =
    let s = c.self.inside in
    let bs = reverse s.branches.items in
    let less = slots_enough s.slot_count s.cells.values s.cells.log bs s.max_stack c.args.count c.args.self.now.held (held_is c.self.view_is) c.requires in
    let there = slot_there s.slot_count s.cells.values s.cells.log bs s.slot_count c.self.invariant (omega arith) in
    rw (← c.self.view_is)
    (c.in_ok-copy_first.ensures ∙ slots_first s.cells.values s.slot_count c.args.count less (omega (arith, there)))
