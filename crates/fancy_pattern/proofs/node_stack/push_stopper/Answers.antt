use Rattle.std.proofs.Common.{refl}
use Rattle.fancy_pattern.proofs.node_stack.push_stopper.Goals as goal

pub returns : goal.returns
returns c = λ chars. record { node = _; added = c.in_ok-push.ensures.items; made = refl; one_char = (tt, chars) }
