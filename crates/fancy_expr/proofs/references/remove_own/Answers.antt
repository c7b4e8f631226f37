use Rattle.std.proofs.Common.{◌==◌, false, ap, ◌∙◌}
use Rattle.std.specs.Option.{option_map_or}
use Rattle.fancy_expr.proofs.Referred.{out_by_one}
use Rattle.fancy_expr.proofs.references.remove_own.Goals as goal

pub returns-in-Some : goal.returns-in-Some
returns-in-Some c = λ g.
    out_by_one _ _ _ _ g (c.remove.ensures.updates.0 g) (c.referred_by.ensures g ∙ ap (λ o. option_map_or (λ h. h == g) o false) c.in-Some.is)
