-- The blame, as far as it rests on the analysis.
use Rattle.std.proofs.Common.{◌≡◌, ℕ, Option, None, refl, ap, ◌∙◌}
use Rattle.std.specs.List.{position}
use Rattle.std.specs.Prelude.{◌≢◌}
use Rattle.fancy_expr.specs.Exprs.{exprs}
use Rattle.fancy_expr.specs.declared.error.CompileError.{CompileError}
use Rattle.fancy_expr.specs.declared.error.CompileError.TheVariants as refusal
use Rattle.fancy_faults.specs.Blame.{is_at_fault, whole_of, IsBlamed}
use Rattle.fancy_analysis.specs.Analyses.{IsAnalysisOf}
use Rattle.fancy_analysis.specs.Refusals.{IsAnalysable}
use Rattle.fancy_expr.specs.Views.{parsed_of, tree_of}
use Rattle.fancy_expr.specs.declared.expr.ExprTree.{ExprTree}
use Rattle.fancy_info.specs.Infos.{analysis_options_of, info_tree}
use Rattle.fancy_info.specs.declared.context.AnalyzeContext.{AnalyzeContext}
use Rattle.fancy_info.specs.declared.info.Info.{Info}
use Rattle.fancy_meaning.specs.Nodes.{nodes}
use Rattle.fancy_meaning.specs.Options.{Analysis, analysis_of}
use Rattle.fancy_faults.specs.Blame.{is_variable_look_behind, IsLookBehindAt}
use Rattle.fancy_faults.specs.Known.{IsKnown}

module _ (t : ExprTree) (context : AnalyzeContext) where
  -- by the analysis
  pub by_analysis : (i : Info) (at : Option ℕ) → IsAnalysisOf t (analysis_options_of context) i →
      ((a : Analysis) → IsKnown a i → at ≡ position (is_variable_look_behind a.tree) (nodes (info_tree i))) → IsLookBehindAt t context at
  by_analysis i at of_tree found =
      let a = analysis_of (tree_of t.expr) (analysis_options_of context) in
      record {
        analysed = λ accepted.
            found a (record { node = of_tree.root.node; children = of_tree.root.children })
            ∙ ap (λ e. position (is_variable_look_behind a.tree) (nodes e)) of_tree.root.tree;
        unanalysed = λ no_analysis. absurd (no_analysis of_tree.accepted);
      }

  pub without_analysis : ¬ IsAnalysable (parsed_of t) (analysis_options_of context) → IsLookBehindAt t context None
  without_analysis no_analysis = record { analysed = λ accepted. absurd (no_analysis accepted); unanalysed = λ h. refl }

  -- a refusal that a node shows by itself
  pub by_node : (refused : CompileError) (at : Option ℕ) → ((text : _) → refused ≢ refusal.LeftRecursiveSubroutineCall text) →
      refused ≢ refusal.NeverEndingRecursion → refused ≢ refusal.VariableLookBehindRequiresFeature →
      at ≡ position (is_at_fault (whole_of t context) refused) (exprs t.expr) → IsBlamed t context refused at
  by_node (refusal.LeftRecursiveSubroutineCall text) at l n v h = absurd (l text refl)
  by_node refusal.NeverEndingRecursion at l n v h = absurd (n refl)
  by_node refusal.VariableLookBehindRequiresFeature at l n v h = absurd (v refl)
  by_node refused at l n v h = h
