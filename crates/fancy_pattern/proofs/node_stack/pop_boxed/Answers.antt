use Rattle.std.proofs.Common.{sym, subst}
use Rattle.fancy_pattern.specs.Reading.{TakesOff}
use Rattle.fancy_pattern.proofs.node_stack.pop_boxed.Goals as goal

pub returns : goal.returns
returns c = λ below e h.
    subst (TakesOff e below c.popped.new.nodes.items) (sym c.in_ok-new.ensures.ok) (c.popped.ensures below e h)
