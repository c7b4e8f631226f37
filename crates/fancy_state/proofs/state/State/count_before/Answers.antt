use Rattle.std.proofs.Common.{reverse, arith, sym, ap, ◌∙◌, ◌-◌, drop, Some}
use Rattle.std.proofs.lemmas.List.{length-reverse}
use Rattle.fancy_state.specs.OldValues.{Values, values_of, held_branches}
use Rattle.fancy_state.proofs.HeldLaws.{find_here, find_on, find_none, reverse-take, held-drop, length-held}
use Rattle.fancy_state.proofs.state.State.count_before.Goals as goal

pub returns-then-index-pc : goal.returns-then-index-pc
returns-then-index-pc c =
    let s = c.self.inside in
    let bs = s.branches.items in
    let now : Values = values_of s.cells.values in
    let n = c.loop-count.count in
    let here = find_here s.slot_count s.cells.log now c.args.pc bs n c.index.result.now c.loop-count-test.true c.loop-count.invariant.inside c.index.ensures c.if-index-pc.true in
    rw (← c.self.view_is) (
      omega (arith, length-held s.slot_count s.cells.log now (reverse bs), length-reverse bs, c.loop-count.invariant.inside),
      sym c.loop-count.invariant.same ∙ here
          ∙ ap Some (ap (held_branches s.slot_count s.cells.log now) (reverse-take bs (n - 1)) ∙ held-drop s.slot_count s.cells.log now (reverse bs) _
          ∙ ap (λ k. drop (k - (n - 1)) (held_branches s.slot_count s.cells.log now (reverse bs))) (sym (length-held s.slot_count s.cells.log now (reverse bs) ∙ length-reverse bs))),
    )

pub loop-count-preserved : goal.loop-count-preserved
loop-count-preserved c =
    let s = c.self.inside in
    record {
      inside = omega (arith, c.loop-count.invariant.inside);
      same =
          sym (find_on s.slot_count s.cells.log (values_of s.cells.values) c.args.pc s.branches.items c.loop-count.count c.index.result.now c.loop-count-test.true c.loop-count.invariant.inside c.index.ensures c.if-index-pc.false)
          ∙ c.loop-count.invariant.same;
    }

pub returns : goal.returns
returns c =
    let s = c.self.inside in
    rw (← c.self.view_is)
    (sym c.loop-count.invariant.same
    ∙ find_none s.slot_count s.cells.log (values_of s.cells.values) c.args.pc s.branches.items c.loop-count.count c.loop-count-test.false)
