use Rattle.std.proofs.Common.{◌≡◌, ◌+◌, ◌*◌, map, take}
use Rattle.fancy_info.specs.Infos.{info_tree}
use Rattle.fancy_info.specs.NodeCounts.{node_count, node_counts}
use Rattle.fancy_fragments.specs.Settable.{settable_above}
use Rattle.fancy_fragments.proofs.settable.+settable.Given as goal

abbrev pub decreases-settable_above : goal.decreases-settable_above
decreases-settable_above l = 2 * node_counts l.infos.now + 1

abbrev pub decreases-settable_above_one : goal.decreases-settable_above_one
decreases-settable_above_one l = 2 * node_count l.info.now

abbrev pub invariant-settable_above-loop-info : goal.invariant-settable_above-loop-info
invariant-settable_above-loop-info l = l.above ≡ settable_above (map info_tree (take l.info-index l.infos))
