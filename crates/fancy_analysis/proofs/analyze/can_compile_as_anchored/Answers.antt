use Rattle.std.proofs.Common.{refl, sym, ap, ◌∙◌, option_copied, slice_get}
use Rattle.fancy_meaning.specs.Laws.{can_be_anchored}
use Rattle.fancy_expr.proofs.AbsentTests.{absent_fails}
use Rattle.fancy_analysis.proofs.Anchors.{first_anchored, concat_anchored}
use Rattle.fancy_analysis.proofs.analyze.can_compile_as_anchored.Goals as goal

pub returns-in-Some : goal.returns-in-Some
returns-in-Some c =
    c.is_anchor.ensures ∙ sym (concat_anchored _ _ c.in-Concat.is ∙ ap first_anchored (ap (λ l. slice_get l 0) (sym c.deref.ensures.value)
    ∙ sym c.first.ensures.value ∙ ap option_copied c.in-Some.is))

pub returns-in-None : goal.returns-in-None
returns-in-None c =
    sym (concat_anchored _ _ c.in-Concat.is ∙ ap first_anchored (ap (λ l. slice_get l 0) (sym c.deref.ensures.value)
    ∙ sym c.first.ensures.value ∙ ap option_copied c.in-None.is))

pub returns-in-Absent : goal.returns-in-Absent
returns-in-Absent c = absent_fails can_be_anchored (λ x. refl) (λ x y. refl) (λ x. refl) refl _ _ c.in-Absent.is
