use Rattle.std.proofs.Common.{IfOk, MatchOption, sym, ap, ◌∙◌, subst}
use Rattle.std.specs.List.{position}
use Rattle.fancy_analysis.specs.Analyses.{IsAnalysisOf}
use Rattle.fancy_analysis.specs.Refusals.{IsAnalysable}
use Rattle.fancy_expr.specs.Views.{parsed_of}
use Rattle.fancy_info.specs.Infos.{analysis_options_of}
use Rattle.fancy_faults.specs.Blame.{is_at_fault, whole_of, IsBlamed, IsLookBehindAt}
use Rattle.fancy_faults.specs.Known.{exprs_of}
use Rattle.fancy_faults.proofs.Blamed.{by_analysis, by_node}
use Rattle.fancy_faults.proofs.Told.{ok_so}
use Rattle.fancy_faults.proofs.fault.blamed.Goals as goal

pub returns-in-Some : goal.returns-in-Some
returns-in-Some c =
    let t = c.args.tree.now in
    let context = c.args.context in
    let options = analysis_options_of context in
    let of_tree = subst (λ o. MatchOption o (¬ IsAnalysable (parsed_of t) options) (λ i. IsAnalysisOf t options i.now)) c.in-Some.is c.requires.info in
    subst (λ r. IfOk c.look_behind_at.result (IsBlamed t context r)) (sym c.in-VariableLookBehindRequiresFeature.is)
    (ok_so c.look_behind_at.result _ (IsLookBehindAt t context) c.look_behind_at.ensures (λ at found. by_analysis t context c.in-Some.info.now at of_tree found))

pub returns-in_default : goal.returns-in_default
returns-in_default c =
    let t = c.args.tree.now in
    let context = c.args.context in
    let refused = c.args.refused.now in
    by_node t context refused c.first_at_fault.result c.in_default.not-LeftRecursiveSubroutineCall c.in_default.not-NeverEndingRecursion
    c.in_default.not-VariableLookBehindRequiresFeature
    (c.first_at_fault.ensures ∙ ap (λ w. position (is_at_fault w refused) (exprs_of c.args.nodes.now)) c.of-whole.ensures
    ∙ ap (position (is_at_fault (whole_of t context) refused)) c.requires.nodes)
