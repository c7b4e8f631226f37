use Rattle.std.proofs.Common.{◌≡◌, ◌++◌, string_bytes, sym, ap, ◌∙◌, arith}
use Rattle.fancy_meaning.specs.PatternText.{text_of}
use Rattle.fancy_expr.specs.Views.{tree_of}
use Rattle.fancy_fragments.proofs.FragmentNodes.{each_analysed}
use Rattle.fancy_fragments.proofs.PatternTexts.{first_text, one_more_text, all_texts}
use Rattle.fancy_fragments.proofs.delegate.pattern_text.Goals as goal
use Rattle.fancy_fragments.proofs.delegate.pattern_text.Goals.{then-is_empty, else-is_empty+in_ok-push_str}

pub loop-info-preserved : goal.loop-info-preserved
loop-info-preserved c =
    let made : string_bytes c.if-is_empty.text ≡ string_bytes c.loop-info.text ++ string_bytes c.in_ok-part.part = elim c.if-is_empty.branch [
      | then-is_empty w ↦ ap string_bytes w.text-is ∙ first_text _ _ _ c.loop-info.text.bytes.ok.0 (sym c.is_empty.ensures ∙ w.if-is_empty.true)
      | else-is_empty+in_ok-push_str w ↦ ap string_bytes w.text-is ∙ w.in_ok-push_str.ensures.bytes
          ∙ ap (λ l. string_bytes c.loop-info.text ++ l) w.deref.ensures
    ] in
    one_more_text c.args.infos.now c.loop-info.info-index c.info-item.result _ _ _ (omega arith) c.info-item.is c.loop-info.invariant
    (c.in_ok-part.ensures ∙ ap (λ e. text_of (tree_of e) 1) c.expr.ensures) made

pub returns-clause-text : goal.returns-clause-text
returns-clause-text c =
    let a = c.requires.analysis in
    all_texts a c.args.infos.now c.loop-info.info-index _ (each_analysed a c.args.infos.now c.requires.each) (omega arith) c.loop-info.invariant
