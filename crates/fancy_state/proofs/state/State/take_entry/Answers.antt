use Rattle.std.proofs.Common.{◌≡◌, ◌<◌, ◌≤◌, ◌+◌, ◌-◌, length, reverse, arith, ap, ◌∙◌, refl}
use Rattle.fancy_state.specs.OldValues.{values_of}
use Rattle.fancy_state.proofs.StateLaws.{held_is, slot_there, stack_some, count_sound, popped_held}
use Rattle.fancy_state.proofs.state.State.take_entry.Goals as goal

pub invariant_of-self-2 : goal.invariant_of-self-2
invariant_of-self-2 c =
    let s = c.self.inside in
    let n = s.slot_count in
    let bs = reverse s.branches.items in
    let sound = c.self.invariant in
    let done = c.in_ok-set.ensures in
    let there = slot_there n s.cells.values s.cells.log bs n sound (omega arith) in
    let room : n + 1 + values_of s.cells.values n ≤ length s.cells.values = sound.room in
    count_sound n s.cells.values c.set.new.self.values s.cells.log c.set.new.self.log bs c.newest_mark-mark.result n (c.get-count.result - 1)
    done.value there (rw c.deref.ensures.value at c.newest_mark-mark.ensures) done.agrees done.longer sound refl (omega (arith, room, c.get-count.ensures.value))

pub returns-clause-ok : goal.returns-clause-ok
returns-clause-ok c =
    let s = c.self.inside in
    let n = s.slot_count in
    let bs = reverse s.branches.items in
    let sound = c.self.invariant in
    let done = c.in_ok-set.ensures in
    let there = slot_there n s.cells.values s.cells.log bs n sound (omega arith) in
    let is : c.get-count.result ≡ values_of s.cells.values n = c.get-count.ensures.value in
    let some : 0 < values_of s.cells.values n =
    omega (arith, c.requires, stack_some n s.cells.values s.cells.log bs s.max_stack c.args.self.now.held (held_is c.self.view_is)) in
    rw (← c.self.view_is)
    (popped_held n s.cells.values c.set.new.self.values s.cells.log c.set.new.self.log bs c.newest_mark-mark.result n (c.get-count.result - 1)
    done.value there (rw c.deref.ensures.value at c.newest_mark-mark.ensures) done.agrees done.longer sound s.max_stack c.get-value.result
    refl (ap (λ k. k - 1) is) some (c.get-value.ensures.value ∙ ap (λ k. values_of s.cells.values (n + k)) is))
