use Rattle.fancy_pattern.specs.Grammar.{is_empty}
use Rattle.fancy_pattern.proofs.NodeStacks.{last_tested, no_last}
use Rattle.fancy_pattern.proofs.node_stack.is_last_empty.Goals as goal

pub returns-in-Some : goal.returns-in-Some
returns-in-Some c = λ below e h.
    last_tested is_empty below c.args.nodes.now e c.in-Some.node.now c.is_empty.result c.is_empty.ensures c.in-Some.ensures.value h

pub returns-in-None : goal.returns-in-None
returns-in-None c = λ below e h. absurd (no_last below c.args.nodes.now e c.in-None.ensures.value h)
