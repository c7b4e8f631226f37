-- How much work the analysis of a tree is, as a number of the tree alone.
use Rattle.std.specs.Prelude.{ℕ, suc, ◌+◌, ◌*◌, length, if◌then◌else◌}
use Rattle.std.specs.List.{list_any}
use Rattle.fancy_meaning.specs.Nodes.{group_count, nodes}
use Rattle.fancy_meaning.specs.Numbering.{numbered}
use Rattle.fancy_meaning.specs.Tree.{Tree}
use Rattle.fancy_meaning.specs.WellFormed.{is_call}
use Rattle.fancy_expr.specs.declared.expr.Expr.{Expr}
use Rattle.fancy_expr.specs.declared.expr.ExprTree.{ExprTree}
use Rattle.fancy_expr.specs.Exprs.{exprs}
use Rattle.fancy_expr.specs.Views.{tree_of}
use Rattle.fancy_analysis.specs.Endings.{ending_rounds}
use Rattle.fancy_analysis.specs.Rounds.{names_one, size_rounds}

-- the tree with its groups numbered from 1
abbrev pub whole_of : Expr → Tree
whole_of e = numbered 1 (tree_of e)

-- The rounds that change something: the size of a group, if a group is named, and what can end, if there is a call.
unfoldable pub analysis_rounds : Expr → ℕ
analysis_rounds e =
    (if list_any names_one (exprs e) then size_rounds (whole_of e) else 0)
    + (if list_any is_call (nodes (tree_of e)) then ending_rounds (whole_of e) (suc (group_count (whole_of e))) else 0)

-- the nodes that are looked at in those rounds
abbrev pub analysis_nodes : ExprTree → ℕ
analysis_nodes t = length (exprs t.expr) * analysis_rounds t.expr
