use Rattle.fancy_pattern.proofs.node_stack.push_joined.Goals as goal

pub returns : goal.returns
returns c = λ chars. record {
  node = c.joined.result;
  added = c.in_ok-push.ensures.items;
  made = c.joined.ensures.made;
  one_char = c.joined.ensures.one_char chars;
}
