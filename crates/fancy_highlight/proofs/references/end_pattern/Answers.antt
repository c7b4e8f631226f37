use Rattle.std.proofs.Common.{[], ◌∷◌, ap, ◌∙◌, append-nil, append_assoc, encode_utf8_all, sym}
use Rattle.std.proofs.lemmas.Iterator.{YieldsList-from_chars}
use Rattle.std.proofs.lemmas.Iterator.Consumers.{YieldsList-end}
use Rattle.fancy_highlight.specs.Ends.{end_for, taken_by}
use Rattle.fancy_highlight.proofs.BackReferences.{map-same}
use Rattle.fancy_highlight.proofs.references.end_pattern.Goals as goal

pub returns : goal.returns
returns c =
    let t = YieldsList-end
    (YieldsList-from_chars c.args.end.now c.utf8.end cc) c.loop-c.yielded _ c.loop-c.yielded_by _ _ c.in-None.is c.next.ensures.steps in
    c.in_ok-push_last.ensures ∙ c.loop-c.invariant []
    ∙ ap (λ l. encode_utf8_all (end_for (taken_by c.args.captures.now) l)) (append-nil c.loop-c.yielded ∙ sym (map-same _) ∙ t.0)

pub loop-c-preserved : goal.loop-c-preserved
loop-c-preserved c = λ rest.
    c.in_ok-is_escaped.ensures rest ∙ c.loop-c.invariant (c.in-Some.c ∷ rest)
    ∙ ap (λ l. encode_utf8_all (end_for (taken_by c.args.captures.now) l)) (sym (append_assoc c.loop-c.yielded (c.in-Some.c ∷ []) rest))
