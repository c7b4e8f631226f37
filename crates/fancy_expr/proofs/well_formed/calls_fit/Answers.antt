use Rattle.std.proofs.Common.{◌≡◌, ◌∙◌, sym, ap, IsFalse, not}
use Rattle.std.specs.List.{list_any}
use Rattle.fancy_meaning.specs.Nodes.{nodes}
use Rattle.fancy_meaning.specs.WellFormed.{Has, is_call, is_any_call}
use Rattle.fancy_expr.specs.Views.{tree_of}
use Rattle.fancy_expr.proofs.Listed.{any-nodes, calls_yes, calls_no}
use Rattle.fancy_expr.proofs.well_formed.calls_fit.Goals as goal

pub returns-then-tree : goal.returns-then-tree
returns-then-tree c =
    let e = c.args.tree.now.expr in
    let same : c.has_node.result ≡ list_any is_any_call (nodes (tree_of e)) = c.has_node.ensures ∙ any-nodes is_any_call e in
    let ans = calls_yes c.args.tree.now.contains_subroutines (list_any is_any_call (nodes (tree_of e))) (Has (tree_of e) is_call) c.if-tree.true in
    (λ h. ans.0 (sym same ∙ h), λ h. same ∙ ans.1 h)

pub returns-else-tree : goal.returns-else-tree
returns-else-tree c =
    let e = c.args.tree.now.expr in
    let same : c.has_node-else-tree.result ≡ list_any is_call (nodes (tree_of e)) = c.has_node-else-tree.ensures ∙ any-nodes is_call e in
    let ans = calls_no c.args.tree.now.contains_subroutines (list_any is_call (nodes (tree_of e)))
    (IsFalse (list_any is_any_call (nodes (tree_of e)))) c.if-tree.false in
    (λ h. ans.0 (ap not (sym same) ∙ h), λ h. ap not same ∙ ans.1 h)
