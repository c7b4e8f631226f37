use Rattle.std.proofs.Common.{◌≡◌, false, map, Result, Ok, Err, slice_index_or, MatchOption, MatchResult, refl, sym, ap, ◌∙◌, subst}
use Rattle.std.specs.Result.{IsErr, IsErrAnd}
use Rattle.fancy_meaning.specs.Numbering.{numbered, numbered_within}
use Rattle.fancy_meaning.specs.Options.{AnalysisOptions, analysis_of}
use Rattle.fancy_meaning.specs.Sizes.{known_of}
use Rattle.fancy_meaning.specs.Tree.{NoLook}
use Rattle.fancy_expr.specs.Exprs.{exprs}
use Rattle.fancy_analysis.specs.Endings.{IsWhole}
use Rattle.fancy_analysis.specs.Rounds.{Agree}
use Rattle.fancy_info.specs.Infos.{analysis_options_of}
use Rattle.fancy_analysis.specs.Analyses.{IsAnalysisOf, IsRefusedAs}
use Rattle.fancy_info.specs.declared.info.Info.{Info}
use Rattle.fancy_expr.specs.declared.expr.ExprTree.{ExprTree}
use Rattle.fancy_expr.specs.declared.error.Error.{Error}
use Rattle.fancy_expr.specs.declared.error.Error.TheVariants.{Memory}
use Rattle.fancy_meaning.specs.AnalysisRefusals.{AnalysisRefuses}
use Rattle.fancy_analysis.specs.Refusals.{HasNoRefusedNode, IsAnalysable}
use Rattle.fancy_expr.specs.Errors.{error_of}
use Rattle.fancy_expr.proofs.Listed.{false_true}
use Rattle.fancy_analysis.proofs.MadeNodes.{whole_visited}
use Rattle.fancy_info.specs.Sized.{size_of}
use Rattle.fancy_expr.specs.Views.{parsed_of}
use Rattle.fancy_analysis.proofs.RefusalNodes.{flag_is_read}
use Rattle.fancy_analysis.proofs.analyze.analyze.Goals as goal

pub returns : goal.returns
unfolding numbered
returns c =
    let p = parsed_of c.args.tree.now in
    let o = analysis_options_of c.args.context in
    let a = analysis_of p.tree o in
    let quiet : HasNoRefusedNode p o = c.in_default.ensures in
    let whole : IsWhole a c.in_ok-info.info =
    whole_visited o _ c.args.tree.now.expr c.first_group-first.result c.in_ok-info.info c.first_group-first.ensures c.in_ok-info.ensures (record {
      options = refl;
      reads = λ g. ap (λ l. slice_index_or l g false) c.deref-3.ensures.value ∙ c.in_ok-reads.ensures g ∙ flag_is_read p o c.requires.0.groups quiet g;
    }) (subst (λ l. Agree (map size_of l) (known_of (numbered_within NoLook c.first_group-first.result p.tree)) (exprs c.args.tree.now.expr))
    (sym c.deref-2.ensures.value) c.in_ok-known.ensures) in
    let root = c.as_root.ensures a refl c.in_ok-info.ensures.within (c.in_ok-info.ensures.start_group
    ∙ c.first_group-first.ensures) whole.root.tree whole.analysed in
    record {
      accepted = subst (λ r. MatchOption r (IsAnalysable p o) (λ error. AnalysisRefuses p o (error_of error))) c.in_default-2.is
          (c.in_ok-refused.ensures o quiet whole);
      expr = root.1 ∙ c.in_ok-info.ensures.expr;
      root = root.0;
    }

pub returns-in-Some-2 : goal.returns-in-Some-2
unfolding numbered
returns-in-Some-2 c =
    let p = parsed_of c.args.tree.now in
    let o = analysis_options_of c.args.context in
    let quiet : HasNoRefusedNode p o = c.in_default.ensures in
    let whole : IsWhole (analysis_of p.tree o) c.in_ok-info.info =
    whole_visited o _ c.args.tree.now.expr c.first_group-first.result c.in_ok-info.info c.first_group-first.ensures c.in_ok-info.ensures (record {
      options = refl;
      reads = λ g. ap (λ l. slice_index_or l g false) c.deref-3.ensures.value ∙ c.in_ok-reads.ensures g ∙ flag_is_read p o c.requires.0.groups quiet g;
    }) (subst (λ l. Agree (map size_of l) (known_of (numbered_within NoLook c.first_group-first.result p.tree)) (exprs c.args.tree.now.expr))
    (sym c.deref-2.ensures.value) c.in_ok-known.ensures) in
    subst (λ r. MatchOption r (IsAnalysable p o) (λ error. AnalysisRefuses p o (error_of error))) c.in-Some-2.is (c.in_ok-refused.ensures o quiet whole)

memory_only : (tree : ExprTree) (o : AnalysisOptions) (r : Result Info Error) (x : Error) → IsErr r → IsErrAnd r (λ e. e ≡ x) → x ≡ Memory →
    MatchResult r (λ info. IsAnalysisOf tree o info) (λ error. IsRefusedAs (parsed_of tree) o error)
memory_only tree o (Ok info) x h is at = absurd (false_true h)
memory_only tree o (Err e) x h is at = subst (IsRefusedAs (parsed_of tree) o) (sym (is ∙ at)) tt

pub returns-in_err-refused : goal.returns-in_err-refused
unfolding numbered
returns-in_err-refused c =
    let p = parsed_of c.args.tree.now in
    let o = analysis_options_of c.args.context in
    let quiet : HasNoRefusedNode p o = c.in_default.ensures in
    let whole : IsWhole (analysis_of p.tree o) c.in_ok-info.info =
    whole_visited o _ c.args.tree.now.expr c.first_group-first.result c.in_ok-info.info c.first_group-first.ensures c.in_ok-info.ensures (record {
      options = refl;
      reads = λ g. ap (λ l. slice_index_or l g false) c.deref-3.ensures.value ∙ c.in_ok-reads.ensures g ∙ flag_is_read p o c.requires.0.groups quiet g;
    }) (subst (λ l. Agree (map size_of l) (known_of (numbered_within NoLook c.first_group-first.result p.tree)) (exprs c.args.tree.now.expr))
    (sym c.deref-2.ensures.value) c.in_ok-known.ensures) in
    let from = c.from_residual-in_err-refused in
    memory_only c.args.tree.now o from.result c.in_err-refused.field-0.0 from.ensures.0 from.ensures.1 (c.in_err-refused.ensures o quiet whole)
