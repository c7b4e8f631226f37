-- Which node of a tree a refusal is for: its index among the nodes, each of which is before those below it.
use Rattle.std.specs.Prelude.{◌≡◌, ℕ, zero, suc, ◌-◌, ◌==◌, ◌&&◌, ◌||◌, Bool, true, false, not, nat_eq, nat_le, List, [], ◌∷◌, ◌++◌, codes, decimal, string_bytes, Option, Some, None, option_map, if◌then◌else◌}
use Rattle.std.specs.Cmp.Lexicographic.{pointwise}
use Rattle.std.specs.List.{count_by, ends_with, list_all, position}
use Rattle.std.specs.Option.{is_some}
use Rattle.fancy_meaning.specs.Tree as plain
use Rattle.fancy_meaning.specs.Tree.{Tree, children}
use Rattle.fancy_meaning.specs.Nodes.{nodes}
use Rattle.fancy_meaning.specs.Options.{analysis_of}
use Rattle.fancy_meaning.specs.Sizes.{size}
use Rattle.fancy_meaning.specs.CompileRefusals.{is_behind, branches_of}
use Rattle.fancy_analysis.specs.Refusals.{IsAnalysable, first_of}
use Rattle.fancy_info.specs.Infos.{analysis_options_of}
use Rattle.fancy_info.specs.declared.context.AnalyzeContext.{AnalyzeContext}
use Rattle.fancy_expr.specs.Exprs.{exprs}
use Rattle.fancy_expr.specs.Views.{parsed_of, tree_of}
use Rattle.fancy_expr.specs.Walk.{start_inside}
use Rattle.fancy_expr.specs.declared.error.CompileError.{CompileError}
use Rattle.fancy_expr.specs.declared.error.CompileError.TheVariants as refusal
use Rattle.fancy_expr.specs.declared.expr.Absent.TheVariants as absent
use Rattle.fancy_expr.specs.declared.expr.AstNode.TheVariants as node
use Rattle.fancy_expr.specs.declared.expr.BacktrackingControlVerb.TheVariants as verb
use Rattle.fancy_expr.specs.declared.expr.Expr.{Expr}
use Rattle.fancy_expr.specs.declared.expr.Expr.TheVariants as expr
use Rattle.fancy_expr.specs.declared.expr.ExprTree.{ExprTree}
use Rattle.fancy_faults.specs.declared.blame.Whole.{Whole}

-- ---- a node by itself

-- it has a level of recursion, is a verb but `(*FAIL)` or absent but as a repeater, or is lazy where the longest is asked for
abbrev pub is_unsupported : (longest : Bool) → Expr → Bool
is_unsupported longest (expr.BackrefWithRelativeRecursionLevel group level casei) = true
is_unsupported longest (expr.BackrefExistsCondition group level) = is_some level
is_unsupported longest (expr.BacktrackingControlVerb verb.Fail) = false
is_unsupported longest (expr.BacktrackingControlVerb v) = true
is_unsupported longest (expr.Absent (absent.Repeater' b e)) = false
is_unsupported longest (expr.Absent a) = true
is_unsupported longest (expr.Repeat' b e lo hi greedy) = longest && not greedy
is_unsupported longest e = false

-- it refers to the group with this number, or asks for it
abbrev pub refers : ℕ → Expr → Bool
refers number (expr.Backref group casei) = group == number
refers number (expr.BackrefWithRelativeRecursionLevel group level casei) = group == number
refers number (expr.BackrefExistsCondition group level) = group == number
refers number e = false

-- it is the class with this text
abbrev pub is_class : List ℕ → Expr → Bool
is_class text (expr.Delegate inner casei) = pointwise nat_eq (string_bytes inner) text
is_class text e = false

-- it calls a group that is not there
abbrev pub calls_missing : Whole → Expr → Bool
calls_missing whole (expr.SubroutineCall group) = not (group == 0) && nat_le whole.groups (group - whole.first)
calls_missing whole (expr.AstNode (node.SubroutineCall target) at) = true
calls_missing whole e = false

-- it refers to a group that is not there
abbrev pub is_unresolved : Expr → Bool
is_unresolved (expr.AstNode (node.SubroutineCall target) at) = false
is_unresolved (expr.AstNode n at) = true
is_unresolved e = false

abbrev pub is_call : Expr → Bool
is_call (expr.SubroutineCall group) = true
is_call e = false

-- a node of the tree at which the refusal may be
abbrev pub is_at_fault : Whole → CompileError → Expr → Bool
is_at_fault whole (refusal.InvalidBackref group) e = refers group e
is_at_fault whole refusal.SubroutineCallTargetNotFound e = calls_missing whole e
is_at_fault whole (refusal.InnerError text) e = is_class (string_bytes text) e
is_at_fault whole (refusal.ClassTooBig text) e = is_class (string_bytes text) e
is_at_fault whole refusal.FeatureNotYetSupported e = is_unsupported whole.longest e
is_at_fault whole refusal.UnresolvedAstNode e = is_unresolved e
is_at_fault whole refused e = false

-- ---- a node among the others

-- the only call, if there is one call only
abbrev pub only_call : List Expr → Option ℕ
only_call es = if count_by is_call es == 1 then position is_call es else None

-- the description ends with this number, as `group 1` or `group 'n' (1)`
abbrev pub is_number_of : List ℕ → ℕ → Bool
is_number_of text group =
    ends_with nat_eq text (codes " " ++ decimal group)
    || ends_with nat_eq text (codes " (" ++ (decimal group ++ codes ")"))

-- the group that is described, or a call of the whole, which is group 0; the next group has this number
abbrev pub is_described : List ℕ → ℕ → Expr → Bool
is_described text next (expr.Group' b e) = is_number_of text next
is_described text next (expr.SubroutineCall zero) = is_number_of text 0
is_described text next e = false

-- the first such; groups are numbered in the order in which they open
abbrev pub described_from : List ℕ → ℕ → List Expr → Option ℕ
described_from text next [] = None
described_from text next (e ∷ es) =
    if is_described text next e then Some 0 else option_map suc (described_from text (start_inside e next) es)

-- a look-behind, neither the body of which nor each branch of it takes a constant number of characters
abbrev pub is_variable_look_behind : (whole : Tree) → Tree → Bool
is_variable_look_behind whole (plain.LookAround look body) =
    is_behind look && not ((size whole body).is_const
    || list_all (λ e. (size whole e).is_const) (children (branches_of body)))
is_variable_look_behind whole e = false

-- ---- the blame

abbrev pub whole_of : ExprTree → AnalyzeContext → Whole
whole_of t context = record { first = first_of context; groups = t.total_groups; longest = context.leftmost_longest }

-- the first look-behind of the analysed tree with no fixed length; a tree without analysis has no sizes
pub record IsLookBehindAt (t : ExprTree) (context : AnalyzeContext) (at : Option ℕ) : Type 0 where
  pub analysed : IsAnalysable (parsed_of t) (analysis_options_of context) →
      (let whole = (analysis_of (tree_of t.expr) (analysis_options_of context)).tree in
      at ≡ position (is_variable_look_behind whole) (nodes whole))
  pub unanalysed : ¬ IsAnalysable (parsed_of t) (analysis_options_of context) → at ≡ None

-- the node that the refusal is for
abbrev pub IsBlamed : ExprTree → AnalyzeContext → CompileError → Option ℕ → Type 0
IsBlamed t context (refusal.LeftRecursiveSubroutineCall text) at =
    at ≡ described_from (string_bytes text) (first_of context) (exprs t.expr)
IsBlamed t context refusal.NeverEndingRecursion at = at ≡ only_call (exprs t.expr)
IsBlamed t context refusal.VariableLookBehindRequiresFeature at = IsLookBehindAt t context at
IsBlamed t context refused at = at ≡ position (is_at_fault (whole_of t context) refused) (exprs t.expr)
