use Rattle.std.proofs.Common.{sym, ap, subst, ◌∙◌}
use Rattle.fancy_expr.specs.Views.{tree_of}
use Rattle.fancy_pattern.specs.Reading.{OneCharEach}
use Rattle.fancy_pattern.specs.Grammar as grammar
use Rattle.fancy_pattern.proofs.NodeStacks.{behind_rest}
use Rattle.fancy_pattern.proofs.node_stack.repeat_last.Goals as goal

pub returns : goal.returns
returns c = λ below e h.
    let taken = c.popped.ensures below e h in
    let same = c.in_ok-body.ensures.ok in
    let chars = subst OneCharEach (sym same) taken.one_char in
    record {
      node = c.in_ok-suffixed.field-0;
      added = behind_rest c.in_ok-suffixed.field-0 c.in_ok-push.ensures.items taken.rest;
      made = c.in_ok-suffixed.ensures.made ∙ ap (grammar.suffixed c.args.quantifier c.args.greedy c.args.suffix) (ap tree_of same ∙ taken.made);
      one_char = c.in_ok-suffixed.ensures.one_char chars;
    }
