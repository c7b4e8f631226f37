use Rattle.std.proofs.Common.{ap, ◌∙◌}
use Rattle.fancy_nfa.specs.GroupSpans.{span_from}
use Rattle.fancy_nfa.proofs.GroupSpansLaws.{span_grown}
use Rattle.fancy_nfa.proofs.group_spans.grow.Goals as goal

pub groups-preserved : goal.groups-preserved
groups-preserved c = λ first g.
    ap (λ l. span_from first l g) c.in_ok-push.ensures.items ∙ span_grown c.groups.spans.items first g ∙ c.groups.invariant first g
