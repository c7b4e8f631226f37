use Rattle.std.proofs.Common.{◌≡◌, ◌+◌, ◌∷◌, suc, Some, refl, ap, ◌∙◌, arith, sym, subst, drop, drop-cons, slice_index_or}
use Rattle.std.proofs.Math.ListN.{drop_of_length-le}
use Rattle.fancy_meaning.specs.MatchState.{put}
use Rattle.fancy_nfa.specs.GroupSpans.{span_from}
use Rattle.fancy_nfa.specs.Ways.{Ascends, listed}
use Rattle.fancy_nfa.proofs.GroupSpansLaws.{ascend_on, listed_more, or_else, or_none, span_set}
use Rattle.fancy_nfa.proofs.group_spans.GroupSpans.hold.Goals as goal

pub groups-init : goal.groups-init
groups-init c = record {
  first = refl;
  ascend = c.requires;
  same = λ g. ap (λ l. or_else (listed c.args.spans.now g) (span_from 0 l g)) c.clear.ensures.items ∙ or_none (listed c.args.spans.now g);
}

pub groups-preserved : goal.groups-preserved
groups-preserved c =
    let spans = c.args.spans.now in
    let i = c.groups.group-index in
    let x = slice_index_or spans i (0, 0, 0) in
    let one : suc i ≡ i + 1 = omega arith in
    let rest = drop (i + 1) spans in
    let cut : drop i spans ≡ x ∷ rest = drop-cons spans i (0, 0, 0) c.groups-test.true ∙ ap (λ n. x ∷ drop n spans) one in
    let on = ascend_on x rest (subst Ascends cut c.groups.invariant.ascend) in
    let grown = c.grow.new.spans.items in
    let here : 0 + x.0 ≡ x.0 = omega arith in
    record {
      first = c.groups.invariant.first;
      ascend = on.1;
      same = λ g.
          ap (or_else (listed rest g))
          (span_set grown 0 x.0 (Some (x.1, x.2)) g c.in_ok-grow.ensures.room
          ∙ ap (λ n. put n (Some (x.1, x.2)) (span_from 0 grown) g) here)
          ∙ listed_more x rest (span_from 0 grown) g on.0
          ∙ ap (or_else (listed (x ∷ rest) g)) (c.in_ok-grow.ensures.same 0 g)
          ∙ ap (λ l. or_else (listed l g) (span_from 0 c.groups.self.spans.items g)) (sym cut)
          ∙ c.groups.invariant.same g;
    }

pub returns : goal.returns
returns c = λ g.
    let held = c.groups.self.spans.items in
    ap (λ n. span_from n held g) c.groups.invariant.first
    ∙ ap (λ l. or_else (listed l g) (span_from 0 held g)) (sym (drop_of_length-le c.args.spans.now c.groups-test.false))
    ∙ c.groups.invariant.same g
