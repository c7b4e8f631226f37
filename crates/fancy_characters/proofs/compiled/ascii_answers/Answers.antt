use Rattle.std.proofs.Common.{arith, ap, ◌∙◌, length-set, is_some, encode_utf8}
use Rattle.regex_hir.specs.Find.{find_str}
use Rattle.regex.specs.Strings.{regex_pattern}
use Rattle.fancy_characters.proofs.ClassLaws.{one_more_answer}
use Rattle.fancy_characters.proofs.compiled.ascii_answers.Goals as goal

pub ask-preserved : goal.ask-preserved
ask-preserved c =
    let asked = c.ask-in-ask.ensures.found ∙ ap (λ p. is_some (find_str p (encode_utf8 c.ask.c) 0)) c.ask.invariant.2 in (
      one_more_answer (λ k. is_some (find_str (regex_pattern c.args.regex.now) (encode_utf8 k) 0)) c.ask.answers c.ask.c c.ask-in-ask.result
          (omega (arith, c.ask.invariant.1)) asked c.ask.invariant.0,
      length-set c.ask.answers c.ask.c c.ask-in-ask.result ∙ c.ask.invariant.1,
      c.ask-in-ask.ensures.same ∙ c.ask.invariant.2,
    )
