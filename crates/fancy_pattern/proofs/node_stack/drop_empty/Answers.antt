use Rattle.std.proofs.Common.{sym, subst, ◌∙◌}
use Rattle.fancy_pattern.specs.Reading.{Adds}
use Rattle.fancy_pattern.proofs.NodeStacks.{adds_kept, adds_left_out}
use Rattle.fancy_pattern.proofs.node_stack.drop_empty.Goals as goal

pub returns-then-not-is_last_empty : goal.returns-then-not-is_last_empty
returns-then-not-is_last_empty c = λ below e h.
    adds_kept below c.args.nodes.now.items e (sym (c.is_last_empty.ensures below e (subst (Adds e below) (sym c.deref.ensures.value) h)) ∙
    c.if-not-is_last_empty.true) h

pub returns : goal.returns
returns c = λ below e h.
    adds_left_out below c.popped.new.nodes.items e
    (sym (c.is_last_empty.ensures below e (subst (Adds e below) (sym c.deref.ensures.value) h)) ∙ c.if-not-is_last_empty.false)
    (c.popped.ensures below e h).rest
