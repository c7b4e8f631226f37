use Rattle.std.proofs.Common.{◌≡◌, ◌+◌, ◌∷◌, suc, Some, None, length, drop, drop-cons, slice_index_or, refl, ap, sym, ◌∙◌, arith}
use Rattle.std.proofs.Math.ListN.{drop_of_length-le}
use Rattle.std.proofs.Math.Path.{fun_ext}
use Rattle.fancy_meaning.specs.Config as config
use Rattle.fancy_meaning.specs.MatchState.{Span}
use Rattle.fancy_nfa.specs.GroupSpans.{span_from, spans_in}
use Rattle.fancy_steps.specs.Outcomes.{config_of}
use Rattle.fancy_nfa.proofs.GroupSpansLaws.{none_before, span_none}
use Rattle.fancy_steps.proofs.PairsLaws.{group_fits, pairs_of_one}
use Rattle.fancy_steps.proofs.machine.Machine.set_groups.Goals.{in-Some+in_ok-set_pair, in_default}
use Rattle.fancy_steps.proofs.machine.Machine.set_groups.Goals as goal

pub overflow_add-first : goal.overflow_add-first
overflow_add-first c =
    let spans = c.spans-spans.result.now in
    let fits = group_fits spans c.first-first.result c.groups.index c.args.self.now.task.prog.now.parts.slots (c.in-Some.from, c.in-Some.to)
    (spans_in c.args.groups.now) c.groups-test.true c.in-Some.is
    (λ g. ap (λ n. span_from n spans g) c.first-first.ensures ∙ c.spans-spans.ensures g) c.requires.slots in
    omega (arith, fits, c.groups.invariant.slots, c.groups.self.sound.small)

pub set_pair-requires : goal.set_pair-requires
set_pair-requires c =
    let spans = c.spans-spans.result.now in
    let fits = group_fits spans c.first-first.result c.groups.index c.args.self.now.task.prog.now.parts.slots (c.in-Some.from, c.in-Some.to)
    (spans_in c.args.groups.now) c.groups-test.true c.in-Some.is
    (λ g. ap (λ n. span_from n spans g) c.first-first.ensures ∙ c.spans-spans.ensures g) c.requires.slots in
    omega (arith, fits, c.groups.invariant.slots)

pub groups-preserved : goal.groups-preserved
groups-preserved c =
    let spans = c.spans-spans.result.now in
    let first = c.first-first.result in
    let i = c.groups.index in
    let one : suc i ≡ i + 1 = omega arith in
    let next : first + (i + 1) ≡ first + i + 1 = omega arith in
    let rest = drop (i + 1) spans in
    let x = slice_index_or spans i None in
    let cut : drop i spans ≡ x ∷ rest = drop-cons spans i None c.groups-test.true ∙ ap (λ n. x ∷ drop n spans) one in
    let before = config_of c.groups.self in
    elim c.match-spans-index.branch [
      | in-Some+in_ok-set_pair w ↦
          let span : Span = (w.in-Some.from, w.in-Some.to) in
          let here : drop i spans ≡ Some span ∷ rest = cut ∙ ap (λ o. o ∷ rest) w.in-Some.is in
          let after = w.set_pair.new.self in
          let same = ap (λ n. config.with_slots (config.with_pairs (span_from n rest) (config_of after).slots) (config_of after)) next
          ∙ pairs_of_one before (config_of after) (first + i) span.0 span.1 (span_from (first + i + 1) rest) w.in_ok-set_pair.ensures.ok
          (none_before rest (first + i + 1) (first + i) (omega arith))
          ∙ ap (λ l. config.with_slots (config.with_pairs (span_from (first + i) l) before.slots) before) (sym here)
          ∙ c.groups.invariant.same in
          record {
            task = ap (λ m. m.task) w.self-is ∙ w.in_ok-set_pair.ensures.task ∙ c.groups.invariant.task;
            slots = ap (λ m. length m.state.held.slots) w.self-is ∙ w.in_ok-set_pair.ensures.slots ∙ c.groups.invariant.slots;
            same = ap (λ m. config.with_slots (config.with_pairs (span_from (first + (i + 1)) rest) (config_of m).slots) (config_of m)) w.self-is ∙ same;
          }
      | in_default w ↦
          let here : drop i spans ≡ None ∷ rest = cut ∙ ap (λ o. o ∷ rest) w.in_default.is in
          record {
            task = ap (λ m. m.task) w.self-is ∙ c.groups.invariant.task;
            slots = ap (λ m. length m.state.held.slots) w.self-is ∙ c.groups.invariant.slots;
            same = ap (λ m. config.with_slots (config.with_pairs (span_from (first + (i + 1)) rest) (config_of m).slots) (config_of m)) w.self-is
                ∙ ap (λ n. config.with_slots (config.with_pairs (span_from n rest) before.slots) before) next
                ∙ ap (λ f. config.with_slots (config.with_pairs f before.slots) before) (fun_ext (λ g. sym (span_none rest (first + i) g)))
                ∙ ap (λ l. config.with_slots (config.with_pairs (span_from (first + i) l) before.slots) before) (sym here)
                ∙ c.groups.invariant.same;
          }
    ]

pub returns-clause-ok : goal.returns-clause-ok
returns-clause-ok c =
    let spans = c.spans-spans.result.now in
    let first = c.first-first.result in
    let now = config_of c.groups.self in
    let initial = config_of c.args.self.now in
    let none = drop_of_length-le spans c.groups-test.false in
    sym (ap (λ l. config.with_slots (config.with_pairs (span_from (first + c.groups.index) l) now.slots) now) none
    ∙ ap (λ slots. config.with_slots slots now) (fun_ext (λ s. refl)))
    ∙ c.groups.invariant.same
    ∙ ap (λ f. config.with_slots (config.with_pairs f initial.slots) initial)
    (fun_ext (λ g. ap (λ n. span_from n spans g) c.first-first.ensures ∙ c.spans-spans.ensures g))
