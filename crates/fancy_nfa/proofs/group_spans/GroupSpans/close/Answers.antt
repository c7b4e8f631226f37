use Rattle.std.proofs.Common.{◌≡◌, ◌+◌, ◌-◌, ◌∷◌, Some, reverse, refl, sym, ap, ◌∙◌, arith}
use Rattle.fancy_meaning.specs.MatchState.{Span, put}
use Rattle.fancy_nfa.specs.GroupSpans.{span_from}
use Rattle.fancy_nfa.proofs.GroupSpansLaws.{reversed, span_closed, span_set}
use Rattle.fancy_nfa.proofs.group_spans.GroupSpans.close.Goals as goal

pub returns : goal.returns
returns c = λ yes opened spans h.
    let from = c.in-Some.from in
    let group = c.args.group in
    let first = c.args.self.now.first in
    let grown = c.grow.new.spans.items in
    let span : Span = (from, c.args.place) in
    let whole : first + (group - first) ≡ group = let above = c.if-group-self.false in omega (arith, above) in (
      from,
      (
        reverse c.pop.new.self.items,
        (
          sym h.0 ∙ reversed c.pop.new.self.items c.args.self.now.opened.items from c.in-Some.ensures.items,
          (
            refl,
            λ g.
                span_set grown first (group - first) (Some span) g c.in_ok-grow.ensures.room
                ∙ ap (λ n. put n (Some span) (span_from first grown) g) whole
                ∙ span_closed (span_from first grown) spans group span (λ k. c.grow.ensures.same first k ∙ h.1 k) g,
          ),
        ),
      ),
    )
