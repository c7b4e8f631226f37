use Rattle.std.proofs.Common.{Some, sym, ap, ◌∙◌, subst, inr}
use Rattle.std.specs.Option.{option_map}
use Rattle.fancy_host.specs.Hosted.{IsFailureFor, at_place, failure}
use Rattle.fancy_host.proofs.Said.{fault_by}
use Rattle.fancy_host.proofs.refused.failure_of.Goals as goal

pub returns-in-Ok : goal.returns-in-Ok
returns-in-Ok c =
    let o = c.args.options.now in
    let fault = c.in-Ok.fault in
    let is = fault_by o c.parsing.ensures c.analysis-context.ensures c.request.ensures c.in-Ok.ensures in
    subst (λ p. IsFailureFor o (option_map (λ text. text.now) p) c.args.error.now c.at_place.result) (sym c.in-Some-CompileError.is-0)
    (subst (λ e. IsFailureFor o (Some c.in-Some-CompileError.text.now) e c.at_place.result) (sym c.in-Some-CompileError.is-1)
    (inr (fault, (is, c.at_place.ensures ∙ ap (at_place fault.at) (c.of_error-outcome.ensures ∙ ap failure c.in-Some-CompileError.is-1)))))
