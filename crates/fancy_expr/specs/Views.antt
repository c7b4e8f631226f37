-- The views of the code's types: the plain tree of an `Expr`, and what comes with an `ExprTree`.
use Rattle.std.specs.Prelude.{ℕ, ◌-◌, ◌^◌, Option, Some, None, if◌then◌else◌, ◌==◌, slice_index, string_bytes, chars, map}
use Rattle.fancy_expr.specs.declared.expr.Expr.{Expr, Row_of-Expr, end_of-Expr, more_of-Expr}
use Rattle.fancy_expr.specs.declared.expr.Expr.TheVariants as code
use Rattle.fancy_expr.specs.declared.expr.Absent.{Absent}
use Rattle.fancy_expr.specs.declared.expr.Absent.TheVariants as code_absent
use Rattle.fancy_expr.specs.declared.expr.Assertion.{Assertion}
use Rattle.fancy_expr.specs.declared.expr.Assertion.TheVariants as code_assertion
use Rattle.fancy_expr.specs.declared.expr.LookAround.{LookAround}
use Rattle.fancy_expr.specs.declared.expr.LookAround.TheVariants as code_look
use Rattle.fancy_expr.specs.declared.expr.BacktrackingControlVerb.{BacktrackingControlVerb}
use Rattle.fancy_expr.specs.declared.expr.BacktrackingControlVerb.TheVariants as code_verb
use Rattle.fancy_expr.specs.declared.expr.AstNode.{AstNode}
use Rattle.fancy_expr.specs.declared.expr.AstNode.TheVariants as code_node
use Rattle.fancy_expr.specs.declared.expr.ExprTree.{ExprTree}
use Rattle.fancy_meaning.specs.Tree as plain
use Rattle.fancy_meaning.specs.Options.{ParsedTree}

abbrev pub assertion_of : Assertion → plain.Assertion
assertion_of code_assertion.StartText = plain.StartText
assertion_of code_assertion.EndText = plain.EndText
assertion_of (code_assertion.EndTextIgnoreTrailingNewlines crlf) = plain.EndTextIgnoreTrailingNewlines crlf
assertion_of (code_assertion.StartLine crlf) = plain.StartLine crlf
assertion_of (code_assertion.StartLineOniguruma crlf) = plain.StartLineOniguruma crlf
assertion_of (code_assertion.EndLine crlf) = plain.EndLine crlf
assertion_of code_assertion.LeftWordBoundary = plain.LeftWordBoundary
assertion_of code_assertion.RightWordBoundary = plain.RightWordBoundary
assertion_of code_assertion.LeftWordHalfBoundary = plain.LeftWordHalfBoundary
assertion_of code_assertion.RightWordHalfBoundary = plain.RightWordHalfBoundary
assertion_of code_assertion.WordBoundary = plain.WordBoundary
assertion_of code_assertion.NotWordBoundary = plain.NotWordBoundary

abbrev pub look_of : LookAround → plain.Look
look_of code_look.LookAhead = plain.LookAhead
look_of code_look.LookAheadNeg = plain.LookAheadNeg
look_of code_look.LookBehind = plain.LookBehind
look_of code_look.LookBehindNeg = plain.LookBehindNeg

abbrev pub verb_of : BacktrackingControlVerb → plain.Verb
verb_of code_verb.Fail = plain.Fail
verb_of code_verb.Accept = plain.Accept
verb_of code_verb.Commit = plain.Commit
verb_of code_verb.Skip = plain.Skip
verb_of code_verb.Prune = plain.Prune

abbrev pub unresolved_of : AstNode → plain.Unresolved
unresolved_of (code_node.SubroutineCall target) = plain.UnresolvedCall
unresolved_of n = plain.UnresolvedOther

abbrev pub bound_of : ℕ → Option ℕ
bound_of hi = if hi == 2 ^ 64 - 1 then None else Some hi

abbrev mutual
  pub absent_of : Absent → plain.Tree
  absent_of (code_absent.Repeater' b e) = plain.AbsentRepeater (tree_of e)
  absent_of (code_absent.Expression' b a c e) = plain.AbsentExpression (tree_of a) (tree_of e)
  absent_of (code_absent.Stopper' b e) = plain.AbsentStopper (tree_of e)
  absent_of code_absent.Clear = plain.AbsentClear

  pub tree_of : Expr → plain.Tree
  tree_of code.Empty = plain.Empty
  tree_of (code.Any newline crlf) = plain.Any newline crlf
  tree_of (code.Assertion a) = plain.Assert plain.NoLook (assertion_of a)
  tree_of (code.GeneralNewline unicode) = plain.GeneralNewline unicode
  tree_of (code.Literal val casei) = plain.Literal (slice_index (chars (string_bytes val)) 0) casei
  tree_of (code.LiteralBytes bytes) = plain.LiteralBytes bytes.items
  tree_of (code.Concat' shape es) = plain.Concat (trees_of es)
  tree_of (code.Alt' shape es) = plain.Alt (trees_of es)
  tree_of (code.Group' b e) = plain.Group 0 (tree_of e)
  tree_of (code.LookAround' b e look) = plain.LookAround (look_of look) (tree_of e)
  tree_of (code.Repeat' b e lo hi greedy) = plain.Repeat lo (bound_of hi) greedy (tree_of e)
  tree_of (code.Delegate inner casei) = plain.Delegate (string_bytes inner) casei
  tree_of (code.Backref group casei) = plain.Backref group casei
  tree_of (code.BackrefWithRelativeRecursionLevel group level casei) = plain.BackrefWithLevel group level casei
  tree_of (code.AtomicGroup' b e) = plain.AtomicGroup (tree_of e)
  tree_of code.KeepOut = plain.KeepOut
  tree_of code.ContinueFromPreviousMatchEnd = plain.ContinueFromPreviousMatchEnd
  tree_of (code.BackrefExistsCondition group level) = plain.BackrefExists group level
  tree_of (code.BacktrackingControlVerb verb) = plain.Control (verb_of verb)
  tree_of (code.Conditional' b c d t x f) = plain.Conditional (tree_of c) (tree_of t) (tree_of f)
  tree_of (code.SubroutineCall g) = plain.SubroutineCall g
  tree_of (code.Absent a) = absent_of a
  tree_of (code.DefineGroup' b e) = plain.DefineGroup (tree_of e)
  tree_of (code.AstNode n at) = plain.AstNode (unresolved_of n)

  pub trees_of : {m : _} → Row_of-Expr m → plain.Trees
  trees_of end_of-Expr = plain.none
  trees_of (more_of-Expr e es) = plain.more (tree_of e) (trees_of es)

-- what comes with a tree
abbrev pub parsed_of : ExprTree → ParsedTree
parsed_of t = record {
  tree = tree_of t.expr;
  backrefs = t.backrefs.keys;
  out_of_range_backref = t.out_of_range_backref;
  named_groups = map (λ named. (string_bytes named.0, named.1.items)) t.named_groups.entries;
  numeric_capture_group_references = t.numeric_capture_group_references;
  numbered_groups_ignored = t.numbered_groups_ignored;
  contains_subroutines = t.contains_subroutines;
  total_groups = t.total_groups;
}
