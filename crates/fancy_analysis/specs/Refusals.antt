-- When a tree is refused by the code.
use Rattle.std.specs.Prelude.{◌≡◌, ℕ, ◌+◌, ◌-◌, Bool, false, [], IsTrue, ◌&&◌, not, if◌then◌else◌, ◌==◌, length}
use Rattle.std.specs.List.{list_any}
use Rattle.fancy_meaning.specs.Tree as plain
use Rattle.fancy_meaning.specs.Tree.{Tree}
use Rattle.fancy_meaning.specs.Options.{ParsedTree, AnalysisOptions}
use Rattle.fancy_meaning.specs.Nodes.{nodes}
use Rattle.fancy_expr.specs.Questions.{is_refused}
use Rattle.fancy_meaning.specs.AnalysisRefusals as plain_errors
use Rattle.fancy_meaning.specs.AnalysisRefusals.{AnalysisRefuses, is_lazy}
use Rattle.fancy_info.specs.declared.context.AnalyzeContext.{AnalyzeContext}
use Rattle.fancy_expr.specs.declared.expr.ExprTree.{ExprTree}
use Rattle.fancy_info.specs.Infos.{first_number}

-- the error of a node that is refused
abbrev pub refusal_of : Tree → plain_errors.CompileError
refusal_of (plain.Backref g casei) = plain_errors.InvalidBackref g
refusal_of (plain.BackrefExists g level) = plain_errors.InvalidBackref g
refusal_of (plain.AstNode plain.UnresolvedCall) = plain_errors.SubroutineCallTargetNotFound
refusal_of (plain.AstNode plain.UnresolvedOther) = plain_errors.UnresolvedAstNode
refusal_of e = plain_errors.FeatureNotYetSupported

-- the number of the last group, and 0 where there is none
abbrev pub last_number : ParsedTree → AnalysisOptions → ℕ
last_number p options = first_number options + p.total_groups - 1

abbrev pub first_of : AnalyzeContext → ℕ
first_of c = if c.explicit_capture_group_0 then 0 else 1

-- the number of the last group, and 0 where there is none
abbrev pub last_of : ExprTree → AnalyzeContext → ℕ
last_of t c = first_of c + t.total_groups - 1

abbrev pub has_named_and_numbered : ExprTree → Bool
has_named_and_numbered t =
    t.numbered_groups_ignored && t.numeric_capture_group_references && not (length t.named_groups.entries == 0)

-- no case of a refusal holds
abbrev pub IsAnalysable : ParsedTree → AnalysisOptions → Type 0
IsAnalysable p options = (error : plain_errors.CompileError) → ¬ AnalysisRefuses p options error

-- no node of the tree is refused, no loop is lazy where the longest match may be asked for, and no group without a name
-- is referred to where such groups are left out
pub record HasNoRefusedNode (p : ParsedTree) (options : AnalysisOptions) : Type 0 where
  pub lazy : (options.leftmost_longest && list_any is_lazy (nodes p.tree)) ≡ false
  pub nodes : list_any (is_refused (first_number options) (last_number p options)) (nodes p.tree) ≡ false
  pub names : IsTrue (p.numbered_groups_ignored && p.numeric_capture_group_references) → ¬ (p.named_groups ≡ []) → ⊥
