use Rattle.std.proofs.Common.{◌≡◌, ◌∙◌, [], ◌∷◌, map, refl, sym, ap}
use Rattle.fancy_expr.specs.Views.{tree_of}
use Rattle.fancy_fragments.specs.declared.delegate.Delegate.{Delegate}
use Rattle.fancy_fragments.specs.declared.fragment.Fragment.{Fragment}
use Rattle.fancy_search.proofs.common.common_of.Goals as goal

pub returns : goal.returns
returns c =
    let arm = c.in-Some-Delegate in
    let own : c.fragment.result.now ≡ (arm.delegate.value).fragment = c.fragment.ensures ∙ ap (λ (d : Delegate). d.fragment) c.deref.ensures in
    record {
      tree = ap (λ (d : Delegate). map tree_of d.fragment.exprs.items) c.in_ok-try_clone.ensures
          ∙ ap (λ (f : Fragment). map tree_of f.exprs.items) (sym own)
          ∙ c.is_of_expr.ensures c.if-not-is_of_expr.false
          ∙ ap (λ e. tree_of e ∷ []) c.expr.ensures;
      unicode = refl;
      any_start = c.if-options.false;
      any_end = c.if-options-2.false;
      implicit = sym c.explicit_capture_group_0.ensures ∙ c.if-explicit_capture_group_0.false;
    }
