use Rattle.std.proofs.Common.{sym, ap, ◌∙◌}
use Rattle.std.proofs.lemmas.Iterator.{YieldsList-from_chars}
use Rattle.std.proofs.lemmas.Iterator.Consumers.{YieldsList-end}
use Rattle.fancy_highlight.specs.Ends.{refers}
use Rattle.fancy_highlight.proofs.BackReferences.{map-same, refers_further, refers_to_end}
use Rattle.fancy_highlight.proofs.references.refers.Goals as goal

pub returns : goal.returns
returns c =
    let t = YieldsList-end
    (YieldsList-from_chars c.args.end.now c.utf8.end cc) c.loop-c.yielded _ c.loop-c.yielded_by _ _ c.in-None.is c.next.ensures.steps in
    refers_to_end c.loop-c.yielded c.loop-c.found c.loop-c.is_escaped c.loop-c.invariant ∙ ap refers (sym (map-same _) ∙ t.0)

pub loop-c-preserved : goal.loop-c-preserved
loop-c-preserved c = λ rest.
    let e = refers_further c.loop-c.yielded c.in-Some.c c.loop-c.found c.loop-c.is_escaped c.loop-c.invariant rest in cc
