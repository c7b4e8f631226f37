use Rattle.std.proofs.Common.{Bool, List, drop}
use Rattle.fancy_meaning.specs.Options.{Analysis}
use Rattle.fancy_info.specs.NodeCounts.{node_count}
use Rattle.fancy_compile.specs.AnalysedNodes.{IsKnown}
use Rattle.fancy_compile.specs.GroupTables.{MarksAll}
use Rattle.fancy_compile.proofs.GroupTable.{left_starts}
use Rattle.fancy_compile.proofs.group_table.+mark.Given as goal

abbrev pub decreases-mark : goal.decreases-mark
decreases-mark l = node_count l.info.now

-- marking what is left completes the whole
abbrev pub invariant-loop-part : goal.invariant-loop-part
invariant-loop-part l =
    (a : Analysis) (new : List Bool)
    → IsKnown a l.info
    → MarksAll l.first (left_starts a (drop l.part-index l.children)) l.marks new
    → MarksAll l.first (left_starts a l.children) l.fn.marks new
