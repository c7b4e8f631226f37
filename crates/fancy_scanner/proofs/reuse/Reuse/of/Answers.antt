use Rattle.std.proofs.Common.{◌||◌, sym, ap, ◌∙◌}
use Rattle.fancy_expr.proofs.AskedNodes.{any-continue, any-keep-out}
use Rattle.fancy_scanner.proofs.reuse.Reuse.of.Goals as goal

pub returns-then-has_node-2 : goal.returns-then-has_node-2
returns-then-has_node-2 c = record {
  all_starts = ap (λ b. b || c.args.options.now.run.anchored) c.if-options.false ∙ c.if-options-2.false;
  no_continue = any-continue _ c.args.tree.now.expr ∙ sym c.has_node.ensures ∙ c.if-has_node.false;
}

pub returns : goal.returns
returns c = record {
  no_match = record {
    all_starts = ap (λ b. b || c.args.options.now.run.anchored) c.if-options.false ∙ c.if-options-2.false;
    no_continue = any-continue _ c.args.tree.now.expr ∙ sym c.has_node.ensures ∙ c.if-has_node.false;
  };
  no_keep_out = any-keep-out _ c.args.tree.now.expr ∙ sym c.has_node-2.ensures ∙ c.if-has_node-2.false;
}
