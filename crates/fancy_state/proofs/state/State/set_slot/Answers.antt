use Rattle.std.proofs.Common.{reverse, arith}
use Rattle.fancy_state.proofs.StateLaws.{held_is, slot_sound, slot_held, slot_less, slot_there, mark_inside}
use Rattle.fancy_state.proofs.state.State.set_slot.Goals as goal

pub set-requires-clause-cell : goal.set-requires-clause-cell
set-requires-clause-cell c =
    let s = c.self.inside in
    let bs = reverse s.branches.items in
    let less = slot_less s.slot_count s.cells.values s.cells.log bs s.max_stack c.args.slot c.args.self.now.held (held_is c.self.view_is) c.requires in
    slot_there s.slot_count s.cells.values s.cells.log bs c.args.slot c.self.invariant (omega (arith, less))

pub set-requires-clause-mark : goal.set-requires-clause-mark
set-requires-clause-mark c =
    let s = c.self.inside in
    mark_inside s.slot_count s.cells.values s.cells.log (reverse s.branches.items) c.newest_mark-mark.result (rw c.deref.ensures.value at c.newest_mark-mark.ensures) c.self.invariant

pub invariant_of-self-2 : goal.invariant_of-self-2
invariant_of-self-2 c =
    let s = c.self.inside in
    let bs = reverse s.branches.items in
    let sound = c.self.invariant in
    let done = c.in_ok-set.ensures in
    let less = slot_less s.slot_count s.cells.values s.cells.log bs s.max_stack c.args.slot c.args.self.now.held (held_is c.self.view_is) c.requires in
    slot_sound s.slot_count s.cells.values c.set.new.self.values s.cells.log c.set.new.self.log bs c.newest_mark-mark.result c.args.slot c.args.value
    done.value (slot_there s.slot_count s.cells.values s.cells.log bs c.args.slot sound (omega (arith, less)))
    (rw c.deref.ensures.value at c.newest_mark-mark.ensures) done.agrees done.longer sound less

pub returns-clause-ok : goal.returns-clause-ok
returns-clause-ok c =
    let s = c.self.inside in
    let bs = reverse s.branches.items in
    let sound = c.self.invariant in
    let done = c.in_ok-set.ensures in
    let less = slot_less s.slot_count s.cells.values s.cells.log bs s.max_stack c.args.slot c.args.self.now.held (held_is c.self.view_is) c.requires in
    rw (← c.self.view_is)
    (slot_held s.slot_count s.cells.values c.set.new.self.values s.cells.log c.set.new.self.log bs c.newest_mark-mark.result c.args.slot c.args.value
    done.value (slot_there s.slot_count s.cells.values s.cells.log bs c.args.slot sound (omega (arith, less)))
    (rw c.deref.ensures.value at c.newest_mark-mark.ensures) done.agrees done.longer sound s.max_stack less)
