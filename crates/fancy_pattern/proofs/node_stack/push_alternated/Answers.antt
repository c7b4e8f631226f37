use Rattle.fancy_pattern.proofs.node_stack.push_alternated.Goals as goal

pub returns : goal.returns
returns c = λ chars. record {
  node = c.alternated.result;
  added = c.in_ok-push.ensures.items;
  made = c.alternated.ensures.made;
  one_char = c.alternated.ensures.one_char chars;
}
