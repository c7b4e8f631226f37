use Rattle.std.proofs.Common.{IfSome, subst, sym, ◌∙◌}
use Rattle.fancy_expr.specs.Views.{tree_of}
use Rattle.fancy_expr.proofs.AskedNodes.{any-continue}
use Rattle.fancy_literals.specs.Starts.{AreStartsOf}
use Rattle.fancy_search.proofs.candidates.candidates_of.Goals as goal

pub returns-in-Some : goal.returns-in-Some
returns-in-Some c context =
    let unicode = c.args.options.unicode in
    let tree = tree_of c.args.tree.now.expr in
    record {
      all = subst (λ o. IfSome o (λ starts. AreStartsOf starts unicode tree)) c.in-Some.is c.in_ok-known.ensures;
      any_start = c.if-options.false;
      no_continue = any-continue _ c.args.tree.now.expr ∙ sym c.has_node.ensures ∙ c.if-has_node.false;
    }

pub returns : goal.returns
returns c context = record {
  all = tt;
  any_start = c.if-options.false;
  no_continue = any-continue _ c.args.tree.now.expr ∙ sym c.has_node.ensures ∙ c.if-has_node.false;
}
