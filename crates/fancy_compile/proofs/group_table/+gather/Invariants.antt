use Rattle.std.proofs.Common.{◌≡◌, ◌++◌, drop}
use Rattle.fancy_meaning.specs.Options.{Analysis}
use Rattle.fancy_info.specs.Infos.{info_tree}
use Rattle.fancy_info.specs.NodeCounts.{node_count}
use Rattle.fancy_compile.specs.AnalysedNodes.{IsKnown}
use Rattle.fancy_compile.specs.GroupTables.{AddsKnown, trees_of, group_trees}
use Rattle.fancy_compile.proofs.GroupTable.{each_group_trees}
use Rattle.fancy_compile.proofs.group_table.+gather.Given as goal

abbrev pub decreases-gather : goal.decreases-gather
decreases-gather l = node_count l.info.now

-- what is left completes the whole
abbrev pub invariant-loop-part : goal.invariant-loop-part
invariant-loop-part l = record {
  nodes : (a : Analysis) → IsKnown a l.info → trees_of l.nodes.items ++ each_group_trees
      (drop l.part-index l.children) ≡ trees_of l.fn.nodes.items ++ group_trees (info_tree l.info);
  known : AddsKnown l.info l.fn.nodes.items l.nodes.items;
}
