use Rattle.std.proofs.Common.{◌≡◌, ℕ, true, ap, sym, subst, ◌∙◌, string_bytes}
use Rattle.std.specs.Char.{IsScalar}
use Rattle.regex.specs.Failures.{IsPattern}
use Rattle.regex_syntax.specs.Verdict.{Refuses, default_config}
use Rattle.fancy_meaning.specs.Chars.{class_pattern, class_takes, is_class}
use Rattle.fancy_characters.proofs.ClassLaws.{no_class_of_refusal, class_of_pattern, answers_class, members_of_class, regex_of, ascii_character}
use Rattle.fancy_characters.specs.ClassTexts.{IsRegexOf, compiled_text}
use Rattle.fancy_characters.specs.SimpleClasses.{is_in_simple}
use Rattle.fancy_characters.proofs.SimpleLaws.{simple_takes, simple_is_class}
use Rattle.fancy_characters.proofs.compiled.CompiledClass.new.Goals as goal

pub invariant_of-result : goal.invariant_of-result
invariant_of-result c =
    let simple = c.in-Some.simple in
    let inner = c.in_ok-inner.ensures.ok ∙ c.in-Some.ensures.1 in
    let same = ap (λ u. class_takes u (string_bytes c.in_ok-inner.inner) c.args.casei) c.in-Some.ensures.0
    ∙ ap (λ text. class_takes true text c.args.casei) inner in
    let takes : (k : ℕ) → IsScalar k → is_in_simple simple k ≡ class_takes c.args.unicode (string_bytes c.in_ok-inner.inner) c.args.casei k
    = λ k scalar. simple_takes k scalar simple c.args.casei c.in-Some.ensures.2 ∙ sym (ap (λ f. f k) same) in
    ((λ k h. c.ascii.ensures k h ∙ takes k (ascii_character k h)), takes)

pub returns-in-Some-clause-is_class : goal.returns-in-Some-clause-is_class
returns-in-Some-clause-is_class c =
    ap (λ u. is_class u c.args.name.now c.args.casei) c.in-Some.ensures.0
    ∙ ap (λ text. is_class true text c.args.casei) c.in-Some.ensures.1
    ∙ simple_is_class c.in-Some.simple c.args.casei c.in-Some.ensures.2

pub returns-in_default-kind : goal.returns-in_default-kind
returns-in_default-kind c = record {
  class = tt;
  is_class = tt;
  refused = (
    c.in_ok-inner.ensures.ok,
    no_class_of_refusal c.args.unicode c.args.name.now c.args.casei c.in-Err.kind c.in_default-kind.not-OutOfMemory
        (subst (λ text. Refuses default_config text c.in-Err.kind) (c.as_str.ensures.value ∙ c.in_ok-pattern.ensures) c.in-Err.ensures.refused),
  );
}

pub invariant_of-result-in-Some-listed : goal.invariant_of-result-in-Some-listed
invariant_of-result-in-Some-listed c =
    let inner = string_bytes c.in_ok-inner.inner in
    let source = c.as_str.ensures.value ∙ c.in_ok-pattern.ensures
    ∙ ap (λ name. class_pattern c.args.unicode name c.args.casei) (sym c.in_ok-inner.ensures.ok) in
    let members = members_of_class c.args.unicode inner c.args.casei c.as_str.result.now source c.in-Some-listed.members.ranges.items
    (rw c.in-Some-listed.is at c.in-Ok.ensures.members) in
    ((λ k h. c.ascii_members.ensures k h ∙ members k (ascii_character k h)), members)

pub returns-in-Some-listed-clause-is_class : goal.returns-in-Some-listed-clause-is_class
returns-in-Some-listed-clause-is_class c =
    class_of_pattern c.args.unicode c.args.name.now c.args.casei
    (subst (IsPattern default_config) (c.as_str.ensures.value ∙ c.in_ok-pattern.ensures) c.in-Ok.ensures.is_pattern)

pub returns-in_default-error : goal.returns-in_default-error
returns-in_default-error c = record {
  class = tt;
  is_class = tt;
  refused = (
    c.in_ok-inner.ensures.ok,
    class_of_pattern c.args.unicode c.args.name.now c.args.casei
        (subst (IsPattern default_config) (c.as_str.ensures.value ∙ c.in_ok-pattern.ensures) c.in-Ok.ensures.is_pattern),
  );
}

pub invariant_of-result-2 : goal.invariant_of-result-2
invariant_of-result-2 c =
    let regex = c.in-Ok-new.regex in
    let boxed = sym c.in_ok-new.ensures.ok in
    let inner = string_bytes c.in_ok-inner.inner in
    let source = c.in-Ok-new.ensures.source ∙ c.as_str-2.ensures.value ∙ c.in_ok-pattern.ensures
    ∙ ap (λ name. class_pattern c.args.unicode name c.args.casei) (sym c.in_ok-inner.ensures.ok) in
    let of_text = regex_of regex c.args.unicode inner c.args.casei source c.in-Ok-new.ensures.config c.in-Ok-new.ensures.read in
    let answers = answers_class regex (compiled_text inner c.args.casei c.args.unicode) of_text in
    ((λ k h. c.in_ok-ascii_answers.ensures k h ∙ answers k (ascii_character k h)), subst (IsRegexOf (compiled_text inner c.args.casei c.args.unicode)) boxed of_text)

pub returns-clause-is_class : goal.returns-clause-is_class
returns-clause-is_class c =
    class_of_pattern c.args.unicode c.args.name.now c.args.casei
    (subst (IsPattern default_config) (c.as_str.ensures.value ∙ c.in_ok-pattern.ensures) c.in-Ok.ensures.is_pattern)
