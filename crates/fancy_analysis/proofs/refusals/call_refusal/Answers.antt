use Rattle.std.proofs.Common.{ℕ, Option, MatchOption, String, Global, sym, ◌∙◌, subst, string_bytes}
use Rattle.fancy_meaning.specs.Tree.{Tree}
use Rattle.fancy_expr.specs.declared.expr.ExprTree.{ExprTree}
use Rattle.fancy_meaning.specs.Options.{analysis_of}
use Rattle.fancy_meaning.specs.WellFormed.{is_call}
use Rattle.fancy_meaning.specs.Recursion.{IsLeftRecursive}
use Rattle.fancy_analysis.specs.Names.{IsDescriptionOfLeast, names_of}
use Rattle.fancy_expr.specs.Views.{parsed_of}
use Rattle.fancy_expr.proofs.Listed.{true_false, any-nodes}
use Rattle.fancy_analysis.proofs.RefusalNodes.{late_refused, left_refused, without_calls, that_end, never_refused}
use Rattle.fancy_analysis.proofs.refusals.call_refusal.Goals as goal

pub returns-then-reads_after_call : goal.returns-then-reads_after_call
returns-then-reads_after_call c = λ options quiet w.
    let p = parsed_of c.args.tree.now in
    late_refused p options ((c.reads_after_call.ensures (analysis_of p.tree options).tree w.root.tree w.root.sized).0 c.if-reads_after_call.true)

pub returns-then-not-has_node : goal.returns-then-not-has_node
returns-then-not-has_node c = λ options quiet w.
    let t = c.args.tree.now in
    let p = parsed_of t in
    let no_late = (c.reads_after_call.ensures (analysis_of p.tree options).tree w.root.tree w.root.sized).1 c.if-reads_after_call.false in
    without_calls p options c.requires.0.groups quiet no_late (sym (any-nodes is_call t.expr) ∙ sym c.has_node.ensures ∙ c.if-not-has_node.true)

-- what is found of the left recursion of a tree
abbrev IsFound : ExprTree → Tree → Option (String Global) → Type 0
IsFound t whole r =
    MatchOption r ((g : ℕ) → ¬ IsLeftRecursive whole g) (λ text. IsDescriptionOfLeast whole (names_of t.named_groups.entries) (string_bytes text))

pub returns-in-Some : goal.returns-in-Some
returns-in-Some c = λ options quiet w.
    let t = c.args.tree.now in
    let p = parsed_of t in
    let whole = (analysis_of p.tree options).tree in
    left_refused p options (string_bytes c.in-Some.text) (subst (IsFound t whole) c.in-Some.is (c.in_ok-text.ensures whole w.root.tree w.root.sized))

pub returns-then-branch : goal.returns-then-branch
returns-then-branch c = λ options quiet w.
    let t = c.args.tree.now in
    let p = parsed_of t in
    let whole = (analysis_of p.tree options).tree in
    let no_late = (c.reads_after_call.ensures whole w.root.tree w.root.sized).1 c.if-reads_after_call.false in
    let no_left = subst (IsFound t whole) c.in_default.is (c.in_ok-text.ensures whole w.root.tree w.root.sized) in
    that_end p options c.requires.0.groups quiet no_late no_left ((c.in_ok-can_end.ensures whole w.root).0 c.if-branch.true)

pub returns-else-branch : goal.returns-else-branch
returns-else-branch c = λ options quiet w.
    let t = c.args.tree.now in
    let p = parsed_of t in
    let whole = (analysis_of p.tree options).tree in
    let no_late = (c.reads_after_call.ensures whole w.root.tree w.root.sized).1 c.if-reads_after_call.false in
    let no_left = subst (IsFound t whole) c.in_default.is (c.in_ok-text.ensures whole w.root.tree w.root.sized) in
    let some = sym (any-nodes is_call t.expr) ∙ sym c.has_node.ensures ∙ c.if-not-has_node.false in
    never_refused p options c.requires.0.groups quiet no_late no_left some
    (λ ends. true_false (sym ((c.in_ok-can_end.ensures whole w.root).1 ends) ∙ c.if-branch.false))
