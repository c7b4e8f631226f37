use Rattle.std.proofs.Common.{◌≡◌, ◌==◌}
use Rattle.fancy_meaning.specs.Sizes.{known_of}
use Rattle.fancy_meaning.specs.Spots.{Around, spots}
use Rattle.fancy_meaning.specs.Tree.{Tree}
use Rattle.fancy_info.specs.Infos.{info_tree}
use Rattle.fancy_analysis.specs.LateReads.{met_over}
use Rattle.fancy_analysis.specs.Made.{IsSized}
use Rattle.fancy_analysis.proofs.SpotNodes.{IsOnWay}
use Rattle.fancy_analysis.proofs.late_reads.+meet_all.Given as goal

abbrev pub invariant-loop-child : goal.invariant-loop-child
invariant-loop-child l =
    (whole : Tree) (a : Around)
    → IsSized (known_of whole) l.info
    → (a.owner == l.group) ≡ l.own
    → IsOnWay (met_over l.group) whole l.info a (λ r. (r.owner == l.group) ≡ l.inside) (met_over l.group l.fn.met (spots whole a (info_tree l.info)))
    l.met l.child-index
