use Rattle.std.proofs.Common.{◌≡◌, map, drop}
use Rattle.std.specs.List.{fold}
use Rattle.fancy_meaning.specs.Sizes.{exactly, plus}
use Rattle.fancy_info.specs.Sized.{size_of}
use Rattle.fancy_info.specs.Infos.{info_size}
use Rattle.fancy_analysis.proofs.make.sum_of_sizes.Given as goal

abbrev pub invariant-loop-child : goal.invariant-loop-child
invariant-loop-child l =
    fold plus (size_of l.size) (map info_size (drop l.child-index l.children)) ≡ fold plus (exactly 0) (map info_size l.children)
