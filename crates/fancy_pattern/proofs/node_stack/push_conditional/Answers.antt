use Rattle.fancy_pattern.proofs.node_stack.push_conditional.Goals as goal

pub returns : goal.returns
returns c = λ condition true_branch false_branch. record {
  node = c.conditional.result;
  added = c.in_ok-push.ensures.items;
  made = c.conditional.ensures.made;
  one_char = c.conditional.ensures.one_char condition true_branch false_branch;
}
