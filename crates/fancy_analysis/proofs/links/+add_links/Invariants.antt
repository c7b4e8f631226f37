use Rattle.fancy_meaning.specs.Tree.{Tree}
use Rattle.fancy_meaning.specs.Spots.{Around, spots}
use Rattle.fancy_meaning.specs.Sizes.{known_of}
use Rattle.fancy_info.specs.Infos.{info_tree}
use Rattle.fancy_analysis.specs.Links.{IsAt}
use Rattle.fancy_analysis.specs.Made.{IsSized}
use Rattle.fancy_analysis.proofs.SpotNodes.{IsOnWay, more_links}
use Rattle.fancy_analysis.proofs.links.+add_links.Given as goal

abbrev pub invariant-loop-i : goal.invariant-loop-i
invariant-loop-i l =
    (whole : Tree) (a : Around)
    → IsAt l.fn.around a
    → IsSized (known_of whole) l.info
    → IsOnWay more_links whole l.info a (IsAt l.next) (more_links l.fn.links.items (spots whole a (info_tree l.info))) l.links.items l.i
