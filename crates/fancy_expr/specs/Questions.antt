-- The questions that `find_node` and `has_node` answer of the nodes of a tree.
use Rattle.std.specs.Prelude.{ℕ, Bool, true, false, not, ◌&&◌, ◌||◌, List, nat_eq, nat_lt, nat_le, ◌==◌}
use Rattle.std.specs.List.{list_any}
use Rattle.fancy_meaning.specs.Tree as plain
use Rattle.fancy_meaning.specs.Tree.{Tree}
use Rattle.fancy_meaning.specs.WellFormed.{refers, is_call, is_any_call}
use Rattle.fancy_meaning.specs.AnalysisRefusals.{is_lazy}
use Rattle.fancy_meaning.specs.Marks.{is_continue}
use Rattle.fancy_meaning.specs.Nodes.{is_keep_out}
use Rattle.fancy_expr.specs.declared.expr.Expr.{Expr}
use Rattle.fancy_expr.specs.declared.nodes.Question.{Question}
use Rattle.fancy_expr.specs.declared.nodes.Question.TheVariants as question
use Rattle.fancy_expr.specs.Views.{tree_of}

abbrev pub is_unlisted : List ℕ → ℕ → Tree → Bool
is_unlisted listed groups (plain.Backref g casei) = nat_le g groups && not (list_any (nat_eq g) listed)
is_unlisted listed groups e = false

-- the analysis refuses the node by itself
abbrev pub is_refused : ℕ → ℕ → Tree → Bool
is_refused first last (plain.Backref g casei) = g == 0 || nat_lt g first || nat_lt last g
is_refused first last (plain.BackrefExists g level) = nat_lt g first || nat_lt last g
is_refused first last (plain.BackrefWithLevel g level casei) = true
is_refused first last (plain.AstNode u) = true
is_refused first last e = false

abbrev pub asks : Question → Expr → Bool
asks question.IsCall e = is_call (tree_of e)
asks question.IsLazy e = is_lazy (tree_of e)
asks question.IsContinue e = is_continue (tree_of e)
asks question.IsKeepOut e = is_keep_out (tree_of e)
asks question.IsAnyCall e = is_any_call (tree_of e)
asks (question.Refers g) e = refers g (tree_of e)
asks (question.IsUnlisted listed groups) e = is_unlisted listed.now.keys groups (tree_of e)
asks (question.IsRefused first last) e = is_refused first last (tree_of e)
