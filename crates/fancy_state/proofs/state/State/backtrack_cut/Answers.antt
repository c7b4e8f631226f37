use Rattle.std.proofs.Common.{ℕ, List, take, subst, reverse, arith, sym, refl}
use Rattle.fancy_state.specs.OldValues.{IsSound}
use Rattle.fancy_state.specs.declared.state.Branch.{Branch}
use Rattle.fancy_state.proofs.StateLaws.{held_is, cut_held, cut_none, cut_nothing, cut_first, cut_mark, cut_sound, cut_some}
use Rattle.fancy_state.proofs.state.State.backtrack_cut.Goals as goal

pub returns-then-count-len-clause-held : goal.returns-then-count-len-clause-held
returns-then-count-len-clause-held c =
    let s = c.self.inside in
    rw (cut_nothing s.slot_count s.cells.values s.cells.log s.branches.items c.args.count s.max_stack c.args.self.now.held (held_is c.self.view_is) (omega (arith, s.branches.ok.0))) refl

pub join-requires-clause-mark : goal.join-requires-clause-mark
join-requires-clause-mark c =
    let s = c.self.inside in
    cut_mark s.slot_count s.cells.values s.cells.log s.branches.items c.args.count c.index.result.now (omega (arith, s.branches.ok.0)) c.index.ensures c.self.invariant c.in-Some.mark
    (rw (c.deref.ensures.value, c.truncate.ensures.items) at c.in-Some.ensures)

pub join-requires-clause-first : goal.join-requires-clause-first
join-requires-clause-first c =
    let s = c.self.inside in
    cut_first s.slot_count s.cells.values s.cells.log s.branches.items c.args.count c.index.result.now (omega (arith, s.branches.ok.0)) c.index.ensures c.self.invariant

pub invariant_of-self-in-Some : goal.invariant_of-self-in-Some
invariant_of-self-in-Some c =
    let s = c.self.inside in
    let n = s.slot_count in
    let bs = s.branches.items in
    let newest = rw (c.deref.ensures.value, c.truncate.ensures.items) at c.in-Some.ensures in
    subst (λ (l : List Branch). IsSound n c.join.new.self.values c.join.new.self.log (reverse l)) (sym c.truncate.ensures.items)
    (subst (λ (l : List ℕ). IsSound n l c.join.new.self.log (reverse (take c.args.count bs))) (sym c.join.ensures.values)
    (cut_sound n s.cells.values s.cells.log bs c.args.count c.index.result.now (omega (arith, s.branches.ok.0)) c.index.ensures
    c.self.invariant c.join.new.self.log c.in-Some.mark newest c.join.ensures.agrees c.join.ensures.longer))

pub returns-in-None-clause-held : goal.returns-in-None-clause-held
returns-in-None-clause-held c =
    let s = c.self.inside in
    let n = s.slot_count in
    let bs = s.branches.items in
    let none = rw (c.deref.ensures.value, c.truncate.ensures.items) at c.in-None.ensures in
    rw (← c.self.view_is, c.truncate.ensures.items, c.forget.ensures.values)
    (cut_held n s.cells.values s.cells.log bs c.args.count c.forget.new.self.log s.max_stack
    (cut_none n s.cells.values s.cells.log bs c.args.count c.forget.new.self.log none))

pub returns-in-Some-clause-held : goal.returns-in-Some-clause-held
returns-in-Some-clause-held c =
    let s = c.self.inside in
    let n = s.slot_count in
    let bs = s.branches.items in
    let newest = rw (c.deref.ensures.value, c.truncate.ensures.items) at c.in-Some.ensures in
    rw (← c.self.view_is, c.truncate.ensures.items, c.join.ensures.values)
    (cut_held n s.cells.values s.cells.log bs c.args.count c.join.new.self.log s.max_stack
    (cut_some n s.cells.values s.cells.log bs c.args.count c.index.result.now (omega (arith, s.branches.ok.0)) c.index.ensures
    c.self.invariant c.join.new.self.log c.in-Some.mark newest c.join.ensures.agrees))
