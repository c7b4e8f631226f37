-- What `analyze` answers: a tree of `Info`s that is right, or an error that holds.
use Rattle.std.specs.Prelude.{◌≡◌}
use Rattle.fancy_meaning.specs.AnalysisRefusals.{AnalysisRefuses}
use Rattle.fancy_meaning.specs.Options.{ParsedTree, AnalysisOptions, analysis_of}
use Rattle.fancy_expr.specs.declared.error.Error.{Error}
use Rattle.fancy_expr.specs.declared.error.Error.TheVariants as code
use Rattle.fancy_expr.specs.declared.expr.ExprTree.{ExprTree}
use Rattle.fancy_expr.specs.Views.{parsed_of, tree_of}
use Rattle.fancy_info.specs.declared.info.Info.{Info}
use Rattle.fancy_info.specs.Infos.{info_expr, IsRoot}
use Rattle.fancy_analysis.specs.Refusals.{IsAnalysable}
use Rattle.fancy_expr.specs.Errors.{error_of}

-- no case of a refusal holds, and each node is one of the tree's, as the definitions say
pub record IsAnalysisOf (tree : ExprTree) (options : AnalysisOptions) (info : Info) : Type 0 where
  pub accepted : IsAnalysable (parsed_of tree) options
  pub expr : info_expr info ≡ tree.expr
  pub root : IsRoot (analysis_of (tree_of tree.expr) options) info

-- the error is that of a case of a refusal, or it is want of memory
abbrev pub IsRefusedAs : ParsedTree → AnalysisOptions → Error → Type 0
IsRefusedAs p options (code.CompileError error) = AnalysisRefuses p options (error_of error)
IsRefusedAs p options (code.RuntimeError error) = ⊥
IsRefusedAs p options (code.TreeFault at) = ⊥
IsRefusedAs p options code.NestLimitExceeded = ⊥
IsRefusedAs p options code.Memory = Unit {0}
