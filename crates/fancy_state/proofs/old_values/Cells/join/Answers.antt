use Rattle.std.proofs.Common.{◌<◌, List, length, arith, sym, ◌∙◌, subst, refl}
use Rattle.std.proofs.lemmas.List.{length-set}
use Rattle.fancy_state.specs.OldValues.{Agrees, values_of}
use Rattle.fancy_state.specs.declared.old_values.Old.{Old}
use Rattle.fancy_state.proofs.OldLaws.{agrees_on, inside_set, inside_take, old_inside}
use Rattle.fancy_state.proofs.JoinLaws.{joins_drop, joins_keep, joined}
use Rattle.fancy_state.proofs.old_values.Cells.join.Goals as goal
use Rattle.fancy_state.proofs.old_values.Cells.join.Goals.{then-is_logged, else-is_logged}

pub index-requires : goal.index-requires
index-requires c =
    let s = c.join.self-inside in
    let inv = c.join.invariant in
    let here : c.join.next < length s.log.items = omega (arith, s.log.ok.0, inv.len) in
    let less = old_inside s.log.items _ c.join.next c.index-old.result.now inv.logged.inside here c.index-old.ensures in
    omega (arith, less, inv.logged.places, s.places.ok.0)

pub index_mut-requires : goal.index_mut-requires
index_mut-requires c =
    let s = c.join.self-inside in
    let inv = c.join.invariant in
    let here : c.join.next < length s.log.items = omega (arith, s.log.ok.0, inv.len) in
    let less = old_inside s.log.items _ c.join.next c.index-old.result.now inv.logged.inside here c.index-old.ensures in
    omega (arith, less, inv.logged.places, s.places.ok.0)

pub index_mut-requires-else-is_logged-2 : goal.index_mut-requires-else-is_logged-2
index_mut-requires-else-is_logged-2 c =
    let s = c.join.self-inside in
    let inv = c.join.invariant in
    let here : c.join.next < length s.log.items = omega (arith, s.log.ok.0, inv.len) in
    let less = old_inside s.log.items _ c.join.next c.index-old.result.now inv.logged.inside here c.index-old.ensures in
    omega (arith, less, inv.logged.places, s.places.ok.0)

pub join-preserved : goal.join-preserved
join-preserved c =
    let s = c.join.self-inside in
    let log = s.log.items in
    let e = c.index-old.result.now in
    let kept = c.join.kept in
    let next = c.join.next in
    let inv = c.join.invariant in
    let was = c.self.inside.log.items in
    let now = values_of c.self.inside.values.items in
    let here : next < length log = omega (arith, s.log.ok.0, inv.len) in
    elim c.if-is_logged.branch [
      | then-is_logged w ↦
          rw (w.kept-is, w.self-inside-is)
          (record {
            first = inv.first;
            kept = omega (arith, inv.kept);
            len = inv.len;
            values = inv.values;
            logged = record {
              few = inv.logged.few;
              places = omega (arith, length-set s.places.items e.cell c.if-before-first.place, inv.logged.places);
              inside = inv.logged.inside;
            };
            agrees =
                agrees_on c.args.mark was _ _ now now now inv.agrees
                (joins_drop log e c.args.mark kept next now (omega (arith, inv.first, c.requires.mark)) inv.kept here c.index-old.ensures
                (rw c.deref.ensures.value at (w.if-is_logged.ensures refl)));
          })
      | else-is_logged w ↦
          rw (w.kept-is, w.self-inside-is)
          (record {
            first = omega (arith, inv.first);
            kept = omega (arith, inv.kept);
            len = length-set log kept e ∙ inv.len;
            values = inv.values;
            logged = record {
              few = inv.logged.few;
              places = omega (arith, length-set s.places.items e.cell kept, inv.logged.places);
              inside = inside_set log _ kept e inv.logged.inside (old_inside log _ next e inv.logged.inside here c.index-old.ensures);
            };
            agrees =
                subst (λ (l : List Old). Agrees c.args.mark was now l now)
                (sym (joins_keep log e kept next inv.kept here c.index-old.ensures)) inv.agrees;
          })
    ]

pub invariant_of-self : goal.invariant_of-self
invariant_of-self c =
    let inv = c.join.invariant in
    record {
      few = inv.logged.few;
      places = inv.logged.places;
      inside = rw c.truncate.ensures.items (inside_take c.join.self-inside.log.items _ c.join.kept inv.logged.inside);
    }

pub returns-clause-agrees : goal.returns-clause-agrees
returns-clause-agrees c =
    let s = c.join.self-inside in
    let now = values_of c.self.inside.values.items in
    rw (← c.self.view_is, c.truncate.ensures.items)
    (subst (λ (l : List Old). Agrees c.args.mark c.self.inside.log.items now l now)
    (joined s.log.items c.join.kept c.join.next (omega (arith, s.log.ok.0, c.join.invariant.len))) c.join.invariant.agrees)
