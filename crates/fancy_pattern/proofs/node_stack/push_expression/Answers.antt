use Rattle.std.proofs.Common.{refl}
use Rattle.fancy_pattern.proofs.OneChars.{two_chars}
use Rattle.fancy_pattern.proofs.node_stack.push_expression.Goals as goal

pub returns : goal.returns
returns c = λ absent exp. record {
  node = _;
  added = c.in_ok-push.ensures.items;
  made = refl;
  one_char = (tt, two_chars c.args.absent.value c.args.exp.value absent exp);
}
