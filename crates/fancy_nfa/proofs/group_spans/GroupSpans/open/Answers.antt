use Rattle.std.proofs.Common.{◌∷◌, ap, ◌∙◌}
use Rattle.fancy_nfa.proofs.GroupSpansLaws.{reversed}
use Rattle.fancy_nfa.proofs.group_spans.GroupSpans.open.Goals as goal

pub returns : goal.returns
returns c = λ opened spans h.
    let place = c.args.place in (
      reversed c.args.self.now.opened.items c.push.new.self.items place c.in_ok-push.ensures.items ∙ ap (λ rest. place ∷ rest) h.0,
      h.1,
    )
