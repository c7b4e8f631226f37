use Rattle.std.proofs.Common.{sym, ap, subst, ◌∙◌}
use Rattle.fancy_expr.specs.Views.{tree_of}
use Rattle.fancy_pattern.specs.Reading.{OneCharEach}
use Rattle.fancy_meaning.specs.Tree as tree
use Rattle.fancy_pattern.proofs.NodeStacks.{behind_rest}
use Rattle.fancy_pattern.proofs.node_stack.group_last.Goals as goal

pub returns : goal.returns
returns c = λ below e h.
    let taken = c.popped.ensures below e h in
    let same = c.in_ok-body.ensures.ok in
    let chars = subst OneCharEach (sym same) taken.one_char in
    record {
      node = _;
      added = behind_rest _ c.in_ok-push.ensures.items taken.rest;
      made = ap (tree.Group 0) (ap tree_of same ∙ taken.made);
      one_char = (tt, chars);
    }
