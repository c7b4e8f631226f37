use Rattle.std.proofs.Common.{List, reverse, sym, ap, ◌∙◌, subst}
use Rattle.std.proofs.lemmas.Result.{err_from_is_err_and}
use Rattle.fancy_state.specs.OldValues.{Cells, IsSound}
use Rattle.fancy_state.specs.declared.old_values.Old.{Old}
use Rattle.fancy_state.proofs.StateLaws.{held_of, grown_sound, grown_held, second_sound, second_held, third_sound, third_held}
use Rattle.fancy_state.proofs.state.State.add_entry.Goals as goal

pub invariant_of-self : goal.invariant_of-self
invariant_of-self c =
    let s = c.self.inside in
    let n = s.slot_count in
    let bs = reverse s.branches.items in
    let made = c.in_err-make_room.ensures in
    let first = c.make_room.new.self.values in
    subst (λ (l : List Old). IsSound n first l bs) (sym made.log)
    (grown_sound n s.cells.values first s.cells.log bs made.same made.longer c.self.invariant)

pub returns-in_err-make_room-clause-err : goal.returns-in_err-make_room-clause-err
returns-in_err-make_room-clause-err c =
    let s = c.self.inside in
    let n = s.slot_count in
    let bs = reverse s.branches.items in
    let made = c.in_err-make_room.ensures in
    let first = c.make_room.new.self.values in
    let p = err_from_is_err_and c.from_residual.result c.from_residual.ensures.1 in
    rw (p.1, ← c.self.view_is)
    (ap (λ (l : List Old). held_of n first l bs s.max_stack) made.log
    ∙ grown_held n s.cells.values first s.cells.log bs made.same made.longer s.max_stack)

pub invariant_of-self-in_err-set : goal.invariant_of-self-in_err-set
invariant_of-self-in_err-set c =
    let s = c.self.inside in
    let n = s.slot_count in
    let bs = reverse s.branches.items in
    let made = c.in_ok-make_room.ensures in
    let first = c.make_room.new.self.values in
    subst (λ (k : Cells). IsSound n k.values k.log bs) (sym c.in_err-set.ensures.err)
    (subst (λ (l : List Old). IsSound n first l bs) (sym made.log)
    (grown_sound n s.cells.values first s.cells.log bs made.same made.longer c.self.invariant))

pub returns-in_err-set-clause-err : goal.returns-in_err-set-clause-err
returns-in_err-set-clause-err c =
    let s = c.self.inside in
    let n = s.slot_count in
    let bs = reverse s.branches.items in
    let made = c.in_ok-make_room.ensures in
    let first = c.make_room.new.self.values in
    let p = err_from_is_err_and c.from_residual-in_err-set.result c.from_residual-in_err-set.ensures.1 in
    rw (p.1, ← c.self.view_is)
    (ap (λ (k : Cells). held_of n k.values k.log bs s.max_stack) c.in_err-set.ensures.err
    ∙ ap (λ (l : List Old). held_of n first l bs s.max_stack) made.log
    ∙ grown_held n s.cells.values first s.cells.log bs made.same made.longer s.max_stack)

pub invariant_of-self-in_err-set-2 : goal.invariant_of-self-in_err-set-2
invariant_of-self-in_err-set-2 c =
    let s = c.self.inside in
    let n = s.slot_count in
    let bs = reverse s.branches.items in
    let made = c.in_ok-make_room.ensures in
    let first = c.make_room.new.self.values in
    let newest = rw c.deref.ensures.value at c.newest_mark-mark.ensures in
    let mark = c.newest_mark-mark.result in
    let count = c.get-count.result in
    let second = c.set.new.self.values in
    let olds = c.set.new.self.log in
    let set = c.in_ok-set.ensures in
    let agrees = rw made.log at set.agrees in
    let longer = rw made.log at set.longer in
    subst (λ (k : Cells). IsSound n k.values k.log bs) (sym c.in_err-set-2.ensures.err)
    (second_sound n s.cells.values first second second s.cells.log olds olds bs mark count c.args.value c.self.invariant newest c.get-count.ensures.value
    made.same made.longer made.cell set.value agrees longer)

pub returns-in_err-set-2-clause-err : goal.returns-in_err-set-2-clause-err
returns-in_err-set-2-clause-err c =
    let s = c.self.inside in
    let n = s.slot_count in
    let bs = reverse s.branches.items in
    let made = c.in_ok-make_room.ensures in
    let first = c.make_room.new.self.values in
    let newest = rw c.deref.ensures.value at c.newest_mark-mark.ensures in
    let mark = c.newest_mark-mark.result in
    let count = c.get-count.result in
    let second = c.set.new.self.values in
    let olds = c.set.new.self.log in
    let set = c.in_ok-set.ensures in
    let agrees = rw made.log at set.agrees in
    let longer = rw made.log at set.longer in
    let p = err_from_is_err_and c.from_residual-in_err-set-2.result c.from_residual-in_err-set-2.ensures.1 in
    rw (p.1, ← c.self.view_is)
    (ap (λ (k : Cells). held_of n k.values k.log bs s.max_stack) c.in_err-set-2.ensures.err
    ∙ second_held n s.cells.values first second second s.cells.log olds olds bs mark count c.args.value c.self.invariant newest c.get-count.ensures.value
    made.same made.longer made.cell set.value agrees longer s.max_stack)

pub invariant_of-self-2 : goal.invariant_of-self-2
invariant_of-self-2 c =
    let s = c.self.inside in
    let n = s.slot_count in
    let bs = reverse s.branches.items in
    let made = c.in_ok-make_room.ensures in
    let first = c.make_room.new.self.values in
    let newest = rw c.deref.ensures.value at c.newest_mark-mark.ensures in
    let mark = c.newest_mark-mark.result in
    let count = c.get-count.result in
    let second = c.set.new.self.values in
    let olds = c.set.new.self.log in
    let set = c.in_ok-set.ensures in
    let agrees = rw made.log at set.agrees in
    let longer = rw made.log at set.longer in
    let last = c.in_ok-set-2.ensures in
    third_sound n s.cells.values first second c.set-2.new.self.values s.cells.log olds c.set-2.new.self.log bs mark count c.args.value
    c.self.invariant newest c.get-count.ensures.value made.same made.longer made.cell set.value agrees longer last.value last.agrees last.longer

pub returns-clause-ok : goal.returns-clause-ok
returns-clause-ok c =
    let s = c.self.inside in
    let n = s.slot_count in
    let bs = reverse s.branches.items in
    let made = c.in_ok-make_room.ensures in
    let first = c.make_room.new.self.values in
    let newest = rw c.deref.ensures.value at c.newest_mark-mark.ensures in
    let mark = c.newest_mark-mark.result in
    let count = c.get-count.result in
    let second = c.set.new.self.values in
    let olds = c.set.new.self.log in
    let set = c.in_ok-set.ensures in
    let agrees = rw made.log at set.agrees in
    let longer = rw made.log at set.longer in
    let last = c.in_ok-set-2.ensures in
    rw (← c.self.view_is)
    (third_held n s.cells.values first second c.set-2.new.self.values s.cells.log olds c.set-2.new.self.log bs mark count c.args.value
    c.self.invariant newest c.get-count.ensures.value made.same made.longer made.cell set.value agrees longer last.value last.agrees last.longer s.max_stack)
