use Rattle.std.proofs.Common.{sym, ap, subst, ◌∙◌}
use Rattle.fancy_expr.specs.Views.{tree_of}
use Rattle.fancy_pattern.specs.Reading.{OneCharEach, Adds}
use Rattle.fancy_pattern.specs.Grammar as grammar
use Rattle.fancy_pattern.proofs.NodeStacks.{behind_rest}
use Rattle.fancy_pattern.proofs.node_stack.enclose_last.Goals as goal

pub returns-then-is_plain : goal.returns-then-is_plain
returns-then-is_plain c = λ below e h.
    subst (λ f. Adds (grammar.enclosed f e) below c.args.nodes.now.items) (sym (c.is_plain.ensures c.if-is_plain.true)) h

pub returns : goal.returns
returns c = λ below e h.
    let taken = c.popped.ensures below e h in
    let same = c.in_ok-body.ensures.ok in
    let chars = subst OneCharEach (sym same) taken.one_char in
    record {
      node = c.enclosed.result;
      added = behind_rest c.enclosed.result c.in_ok-push.ensures.items taken.rest;
      made = c.enclosed.ensures.made ∙ ap (grammar.enclosed c.args.enclosing) (ap tree_of same ∙ taken.made);
      one_char = c.enclosed.ensures.one_char chars;
    }
