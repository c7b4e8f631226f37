use Rattle.std.proofs.Common.{◌&&◌, sym, ap, ◌∙◌}
use Rattle.std.specs.List.{list_any}
use Rattle.fancy_meaning.specs.AnalysisRefusals.{is_lazy}
use Rattle.fancy_meaning.specs.Nodes.{nodes}
use Rattle.fancy_expr.specs.Views.{tree_of}
use Rattle.fancy_expr.proofs.Listed.{any-nodes}
use Rattle.fancy_analysis.proofs.refusals.has_lazy.Goals as goal

pub returns-then-context : goal.returns-then-context
returns-then-context c =
    let e = (c.args.tree.now).expr in
    c.has_node.ensures ∙ any-nodes is_lazy e ∙ sym (ap (λ v. v && list_any is_lazy (nodes (tree_of e))) c.if-context.true)

pub returns-else-context : goal.returns-else-context
returns-else-context c =
    c.if-context.false ∙ sym (ap (λ v. v && list_any is_lazy (nodes (tree_of (c.args.tree.now).expr))) c.if-context.false)
