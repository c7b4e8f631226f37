use Rattle.std.proofs.Common.{◌≡◌, ◌++◌, drop}
use Rattle.fancy_meaning.specs.Options.{Analysis}
use Rattle.fancy_info.specs.NodeCounts.{node_count}
use Rattle.fancy_faults.specs.Blame.{is_variable_look_behind}
use Rattle.fancy_faults.specs.Known.{IsKnown}
use Rattle.fancy_faults.proofs.Analysed.{marks, each_marks}
use Rattle.fancy_faults.proofs.finder.+push_look_behinds.Given as goal

abbrev pub decreases-push_look_behinds : goal.decreases-push_look_behinds
decreases-push_look_behinds l = node_count l.info.now

-- what is left completes the whole
abbrev pub invariant-loop-part : goal.invariant-loop-part
invariant-loop-part l = (a : Analysis) → IsKnown a l.info →
    l.marks.items ++ each_marks (is_variable_look_behind a.tree) (drop l.part-index l.children)
    ≡ l.fn.marks.items ++ marks (is_variable_look_behind a.tree) l.info
