use Rattle.std.proofs.Common.{◌≡◌, ◌≤◌, ◌<◌, length, slice_set, ◌++◌, ◌∷◌, [], arith, ap, sym, ◌∙◌, subst, length-append}
use Rattle.std.proofs.lemmas.List.{length-set}
use Rattle.fancy_state.specs.OldValues.{values_of, Agrees, AreInside}
use Rattle.fancy_state.proofs.OldLaws.{agrees_back, agrees_on, set_put, inside_front, inside_last}
use Rattle.fancy_state.proofs.old_values.Cells.unwind.Goals as goal

pub index_mut-requires : goal.index_mut-requires
index_mut-requires c =
    let s = c.undo.self-inside in
    let room = length s.values.items in
    let inside : AreInside room (c.pop.new.self.items ++ c.in-Some.old ∷ []) =
    subst (AreInside room) c.in-Some.ensures.items c.undo.invariant.logged.inside in
    omega (arith, inside_last c.pop.new.self.items c.in-Some.old room inside, s.values.ok.0)

pub index_mut-requires-in-undo : goal.index_mut-requires-in-undo
index_mut-requires-in-undo c =
    let s = c.undo.self-inside in
    let room = length s.values.items in
    let inside : AreInside room (c.pop.new.self.items ++ c.in-Some.old ∷ []) =
    subst (AreInside room) c.in-Some.ensures.items c.undo.invariant.logged.inside in
    omega (arith, inside_last c.pop.new.self.items c.in-Some.old room inside, c.undo.invariant.logged.places, s.places.ok.0)

pub undo-preserved : goal.undo-preserved
undo-preserved c =
    let s = c.undo.self-inside in
    let room = length s.values.items in
    let log = c.pop.new.self.items in
    let e = c.in-Some.old in
    let was : s.log.items ≡ log ++ e ∷ [] = c.in-Some.ensures.items in
    let inside : AreInside room (log ++ e ∷ []) = subst (AreInside room) was c.undo.invariant.logged.inside in
    let low : c.args.mark ≤ length log = omega (arith, ap length was, length-append log (e ∷ []), s.log.ok.0) in
    let less : e.cell < room = inside_last log e room inside in
    let now = values_of s.values.items in
    let new = values_of (slice_set s.values.items e.cell e.value) in
    let back : Agrees c.args.mark s.log.items now log new =
    rw (was, set_put s.values.items e.cell e.value less) (agrees_back log now c.args.mark e low) in
    record {
      mark = low;
      values = length-set s.values.items e.cell e.value ∙ c.undo.invariant.values;
      logged = record {
        few = omega (arith, length-set s.values.items e.cell e.value, c.undo.invariant.logged.few);
        places = omega (arith, length-set s.values.items e.cell e.value, length-set s.places.items e.cell e.before, c.undo.invariant.logged.places);
        inside = subst (λ k. AreInside k log) (sym (length-set s.values.items e.cell e.value)) (inside_front log (e ∷ []) room inside);
      };
      agrees =
          agrees_on c.args.mark c.self.inside.log.items s.log.items log (values_of c.self.inside.values.items) now new
          c.undo.invariant.agrees back;
    }

pub returns-clause-agrees : goal.returns-clause-agrees
returns-clause-agrees c = rw (← c.self.view_is) c.undo.invariant.agrees
