use Rattle.std.proofs.Common.{refl}
use Rattle.fancy_expr.specs.declared.expr.Expr.TheVariants as code
use Rattle.fancy_pattern.proofs.node_stack.push_empty.Goals as goal

pub returns : goal.returns
returns c = record { node = code.Empty; added = c.in_ok-push.ensures.items; made = refl; one_char = (tt, tt) }
