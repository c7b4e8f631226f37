use Rattle.std.proofs.Common.{◌≡◌, map, drop}
use Rattle.std.specs.List.{fold}
use Rattle.fancy_meaning.specs.Sizes.{either}
use Rattle.fancy_info.specs.Sized.{size_of}
use Rattle.fancy_info.specs.Infos.{info_size}
use Rattle.fancy_analysis.proofs.make.any_of_sizes.Given as goal

abbrev pub invariant-loop-child : goal.invariant-loop-child
invariant-loop-child l =
    fold either (size_of l.size) (map info_size (drop l.child-index l.rest)) ≡ fold either (size_of l.initial.size) (map info_size l.rest)
