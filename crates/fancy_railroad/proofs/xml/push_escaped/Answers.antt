use Rattle.std.proofs.Common.{ap, ◌++◌, encode_utf8_all, string_bytes, ◌∙◌, sym}
use Rattle.std.proofs.lemmas.Iterator.{YieldsList-from_chars}
use Rattle.std.proofs.lemmas.Iterator.Consumers.{YieldsList-end}
use Rattle.fancy_railroad.specs.Xml.{escaped}
use Rattle.fancy_railroad.proofs.Escaping.{escaped_on, map-same}
use Rattle.fancy_railroad.proofs.xml.push_escaped.Goals as goal

pub loop-c-preserved : goal.loop-c-preserved
loop-c-preserved c =
    escaped_on c.loop-c.yielded c.in-Some.c (string_bytes c.args.out.now) (string_bytes c.loop-c.out) (string_bytes c.push_char.new.out) c.loop-c.invariant
    c.in_ok-push_char.ensures

pub returns : goal.returns
returns c =
    let t = YieldsList-end
    (YieldsList-from_chars c.args.text.now c.utf8.text cc) c.loop-c.yielded _ c.loop-c.yielded_by _ _ c.in-None.is c.next.ensures.steps in
    c.loop-c.invariant ∙ ap (λ cs. string_bytes c.args.out.now ++ encode_utf8_all (escaped cs)) (sym (map-same _) ∙ t.0)
