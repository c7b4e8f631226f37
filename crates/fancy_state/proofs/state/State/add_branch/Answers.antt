use Rattle.std.proofs.Common.{List, ◌∷◌, subst, sym, length, reverse, arith}
use Rattle.fancy_state.specs.OldValues.{values_of, IsSound}
use Rattle.fancy_state.specs.declared.state.Branch.{Branch}
use Rattle.fancy_state.proofs.HeldLaws.{held_now, falls_now, reversed}
use Rattle.fancy_state.proofs.state.State.add_branch.Goals as goal

pub returns-clause-ok : goal.returns-clause-ok
returns-clause-ok c =
    let s = c.self.inside in
    let b : Branch = record { pc = c.args.pc; ix = c.args.ix; mark = c.mark-mark.result } in
    rw (← c.self.view_is)
    (rw (
      reversed s.branches.items c.push.new.self.items b c.in_ok-push.ensures.items,
      held_now s.slot_count s.cells.log (values_of s.cells.values) b (reverse s.branches.items) (omega (arith, c.mark-mark.ensures)),
    ))

pub invariant_of-self-2 : goal.invariant_of-self-2
invariant_of-self-2 c =
    let s = c.self.inside in
    let sound = c.self.invariant in
    let b : Branch = record { pc = c.args.pc; ix = c.args.ix; mark = c.mark-mark.result } in
    let marked : IsSound s.slot_count s.cells.values s.cells.log (b ∷ reverse s.branches.items) = record {
      room = sound.room;
      marks = falls_now s.slot_count (length s.cells.values) s.cells.log (values_of s.cells.values) b (reverse s.branches.items) c.mark-mark.ensures sound.room sound.marks;
    } in
    subst (λ (bs : List Branch). IsSound s.slot_count s.cells.values s.cells.log bs)
    (sym (reversed s.branches.items c.push.new.self.items b c.in_ok-push.ensures.items)) marked
