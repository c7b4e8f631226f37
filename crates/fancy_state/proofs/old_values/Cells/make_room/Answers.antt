use Rattle.std.proofs.Common.{ap, arith, length, length-append, ◌∷◌, []}
use Rattle.fancy_state.proofs.CellLaws.{one_more_cell}
use Rattle.fancy_state.proofs.OldLaws.{inside_more}
use Rattle.fancy_state.proofs.old_values.Cells.make_room.Goals as goal

pub returns-clause-same : goal.returns-clause-same
returns-clause-same c = rw (c.in_ok-push-2.ensures.items, ← c.self.view_is) (one_more_cell c.self.inside.values.items)

pub invariant_of-self-2 : goal.invariant_of-self-2
invariant_of-self-2 c =
    let s = c.self.inside in
    record {
      few = omega (arith, ap length c.in_ok-push-2.ensures.items, length-append s.values.items (0 ∷ []));
      places = omega (arith, c.self.invariant.places, ap length c.in_ok-push.ensures.items, ap length c.in_ok-push-2.ensures.items, length-append s.places.items (0 ∷ []), length-append s.values.items (0 ∷ []));
      inside = inside_more s.log.items _ _ (omega (arith, ap length c.in_ok-push-2.ensures.items, length-append s.values.items (0 ∷ []))) c.self.invariant.inside;
    }
