use Rattle.fancy_pattern.proofs.NodeStacks.{top_off, not_none}
use Rattle.fancy_pattern.proofs.node_stack.popped.Goals as goal

pub returns-in-Some : goal.returns-in-Some
returns-in-Some c = λ below e h. top_off below c.args.nodes.now.items c.pop.new.self.items c.in-Some.node e c.in-Some.ensures.items h

pub returns-in-None : goal.returns-in-None
returns-in-None c = λ below e h.
    absurd (not_none below c.args.nodes.now.items c.pop.new.self.items _ e c.in-None.ensures.cases.0 c.in-None.ensures.rest c.in-None.ensures.items h)
