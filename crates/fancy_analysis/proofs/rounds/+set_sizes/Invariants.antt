use Rattle.std.proofs.Common.{◌≡◌, map, drop}
use Rattle.fancy_meaning.specs.Sizes.{Known}
use Rattle.fancy_info.specs.Infos.{info_children, info_tree}
use Rattle.fancy_info.specs.Sized.{size_of}
use Rattle.fancy_analysis.specs.Made.{IsSized, with_sizes}
use Rattle.fancy_analysis.proofs.RoundSizes.{with_each}
use Rattle.fancy_analysis.proofs.rounds.+set_sizes.Given as goal

abbrev pub invariant-loop-child : goal.invariant-loop-child
invariant-loop-child l =
    (known : Known) → IsSized known l.info →
    with_each known (map size_of l.table) (drop l.child-index (info_children l.info)) ≡ with_sizes known (map size_of l.fn.table) (info_tree l.info)
