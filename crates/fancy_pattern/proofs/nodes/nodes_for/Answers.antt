use Rattle.fancy_pattern.specs.Grammar.{named}
use Rattle.fancy_pattern.proofs.MadeNodes.{one_node_more}
use Rattle.fancy_pattern.proofs.nodes.nodes_for.Goals as goal

pub loop-group-preserved : goal.loop-group-preserved
loop-group-preserved c =
    one_node_more c.args.groups.now c.loop-group.group-index 0 (named c.args.naming c.args.level) c.loop-group.nodes.items c.push.new.self.items
    c.named.result c.loop-group-test.true c.loop-group.invariant c.in_ok-push.ensures.items c.named.ensures
