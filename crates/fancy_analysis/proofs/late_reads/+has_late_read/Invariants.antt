use Rattle.std.proofs.Common.{◌≡◌, false, take}
use Rattle.fancy_meaning.specs.Sizes.{known_of}
use Rattle.fancy_meaning.specs.Tree.{Tree}
use Rattle.fancy_info.specs.Infos.{info_children}
use Rattle.fancy_analysis.specs.LateReads.{is_read_late}
use Rattle.fancy_analysis.specs.Made.{IsSized}
use Rattle.fancy_analysis.proofs.InfoNodes.{any_in_each}
use Rattle.fancy_analysis.proofs.late_reads.+has_late_read.Given as goal

abbrev pub invariant-loop-child : goal.invariant-loop-child
invariant-loop-child l = (whole : Tree) → IsSized (known_of whole) l.info → any_in_each (is_read_late whole) (take l.child-index (info_children l.info)) ≡ false
