use Rattle.std.proofs.Common.{ap, ◌∙◌, is_some, encode_utf8, string_bytes}
use Rattle.regex_hir.specs.Find.{find_str}
use Rattle.regex.specs.Strings.{regex_pattern}
use Rattle.fancy_meaning.specs.Chars.{class_takes}
use Rattle.fancy_characters.proofs.ClassLaws.{answers_class}
use Rattle.fancy_characters.specs.ClassTexts.{ClassText, compiled_text}
use Rattle.fancy_characters.proofs.compiled.CompiledClass.takes.Goals as goal

pub returns-in-Simple : goal.returns-in-Simple
returns-in-Simple c =
    let takes = rw c.in-Simple.is at c.self.invariant.1 in
    c.takes.ensures ∙ takes c.args.c c.ranges.c.0 ∙ ap (λ (t : ClassText). class_takes t.unicode t.inner t.casei c.args.c) c.self.view_is

pub returns-in_ok-matcher-in-Asked : goal.returns-in_ok-matcher-in-Asked
returns-in_ok-matcher-in-Asked c =
    let inside = c.self.inside in
    let regex_of = rw c.in-Asked.is at c.self.invariant.1 in
    let answers =
    answers_class c.in-Asked.regex.value (compiled_text (string_bytes inside.inner) inside.casei inside.unicode) regex_of c.args.c c.ranges.c.0 in
    let asked = c.ask.ensures.found ∙ ap (λ p. is_some (find_str p (encode_utf8 c.args.c) 0)) c.in_ok-matcher-in-Asked.ensures.pattern in
    let same = ap (λ r. is_some (find_str (regex_pattern r) (encode_utf8 c.args.c) 0)) c.deref.ensures in
    asked ∙ same ∙ answers ∙ ap (λ (t : ClassText). class_takes t.unicode t.inner t.casei c.args.c) c.self.view_is
