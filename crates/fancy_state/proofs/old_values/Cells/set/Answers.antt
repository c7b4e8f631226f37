use Rattle.std.proofs.Common.{◌<◌, length, arith, refl, sym, subst}
use Rattle.std.proofs.lemmas.List.{length-set}
use Rattle.fancy_state.specs.OldValues.{AreInside, Cells, values_of}
use Rattle.fancy_state.proofs.OldLaws.{agrees_still, agrees_logged, read_now, set_put, inside_append}
use Rattle.fancy_state.proofs.old_values.Cells.set.Goals as goal
use Rattle.fancy_state.proofs.old_values.Cells.set.Goals.{in-None, in-Some+then-not-is_logged+in_ok-push-in-Some, in-Some+else-not-is_logged}

pub returns-clause-agrees : goal.returns-clause-agrees
returns-clause-agrees c =
    let s = c.self.inside in
    let values = s.values.items in
    let now = values_of values in
    let here : c.args.cell < length values = subst (λ (k : Cells). c.args.cell < length k.values) (sym c.self.view_is) c.requires.cell in
    elim c.match-mark.branch [
      | in-None w ↦ rw w.in-None.is tt
      | in-Some+then-not-is_logged+in_ok-push-in-Some w ↦
          rw (← c.self.view_is, w.in-Some.is, w.self-inside-is, w.in_ok-push-in-Some.ensures.items, set_put values c.args.cell c.args.value here)
          (agrees_logged s.log.items now w.in-Some.mark _ c.args.value (rw (← c.self.view_is, w.in-Some.is) at c.requires.mark)
          (read_now values c.args.cell _ here w.index-value.ensures))
      | in-Some+else-not-is_logged w ↦
          rw (← c.self.view_is, w.in-Some.is, w.self-inside-is, set_put values c.args.cell c.args.value here)
          (agrees_still s.log.items now w.in-Some.mark c.args.cell c.args.value (rw w.deref.ensures.value at (w.if-not-is_logged.ensures refl)))
    ]

pub invariant_of-self-2 : goal.invariant_of-self-2
invariant_of-self-2 c =
    let s = c.self.inside in
    let values = s.values.items in
    let inv = c.self.invariant in
    let here : c.args.cell < length values = subst (λ (k : Cells). c.args.cell < length k.values) (sym c.self.view_is) c.requires.cell in
    let len = length-set values c.args.cell c.args.value in
    elim c.match-mark.branch [
      | in-None w ↦
          rw w.self-inside-is
          (record {
            few = omega (arith, len, inv.few);
            places = omega (arith, len, inv.places);
            inside = subst (λ k. AreInside k s.log.items) (sym len) inv.inside;
          })
      | in-Some+then-not-is_logged+in_ok-push-in-Some w ↦
          rw w.self-inside-is
          (record {
            few = omega (arith, len, inv.few);
            places = omega (arith, len, length-set s.places.items c.args.cell w.len-place.result, inv.places);
            inside = rw (w.in_ok-push-in-Some.ensures.items, len) (inside_append s.log.items _ (length values) inv.inside (here, tt));
          })
      | in-Some+else-not-is_logged w ↦
          rw w.self-inside-is
          (record {
            few = omega (arith, len, inv.few);
            places = omega (arith, len, inv.places);
            inside = subst (λ k. AreInside k s.log.items) (sym len) inv.inside;
          })
    ]
