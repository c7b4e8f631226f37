use Rattle.std.proofs.Common.{sym, ap, subst, ◌∙◌}
use Rattle.fancy_expr.specs.Views.{tree_of}
use Rattle.fancy_pattern.specs.Reading.{OneCharEach}
use Rattle.fancy_pattern.specs.Grammar as grammar
use Rattle.fancy_pattern.proofs.node_stack.push_repeated.Goals as goal

pub returns : goal.returns
returns c =
    let made = c.in_ok-literal.ensures in
    let same = c.in_ok-body.ensures.ok in
    record {
      node = c.in_ok-suffixed.field-0;
      added = c.in_ok-push.ensures.items;
      made = c.in_ok-suffixed.ensures.made ∙ ap (grammar.suffixed c.args.quantifier c.args.greedy c.args.suffix) (ap tree_of same ∙ made.made);
      one_char = c.in_ok-suffixed.ensures.one_char (subst OneCharEach (sym same) made.one_char);
    }
