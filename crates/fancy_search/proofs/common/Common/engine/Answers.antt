use Rattle.std.proofs.Common.{◌∙◌, ap, option_copied, slice_get, subst, sym}
use Rattle.fancy_fragments.specs.declared.delegate.Delegate.{Delegate}
use Rattle.fancy_fragments.specs.declared.fragment.Fragment.{Fragment}
use Rattle.fancy_hybrid.specs.Translations.{IsTranslated}
use Rattle.fancy_search.proofs.GearLaws.{engines_of, first_tree}
use Rattle.fancy_search.proofs.common.Common.engine.Goals as goal

pub returns : goal.returns
returns c = λ tree is.
    let common = c.args.self.now in
    let own = c.exprs.ensures ∙ ap (λ (f : Fragment). f.exprs.items) (c.fragment.ensures ∙ ap (λ (d : Delegate). d.fragment) c.deref.ensures) in
    let first = ap (λ l. slice_get l 0) (sym own) ∙ sym c.first.ensures.value ∙ ap option_copied c.in-Some.is in
    let same = first_tree (common.delegate.value).fragment.exprs.items c.in-Some.expr.now tree first is in
    engines_of common.unicode tree c.in-Some-2.it
    (subst (λ e. IsTranslated common.unicode 1 e c.in-Some-2.it) same (rw c.in-Some-2.is at c.in_ok-it.ensures))
    c.in_ok-made.made c.in_ok-made.ensures c.boxed.result c.boxed.ensures
