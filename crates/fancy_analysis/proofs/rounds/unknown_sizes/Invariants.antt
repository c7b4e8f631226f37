use Rattle.std.proofs.Common.{◌≡◌, map, replicate}
use Rattle.fancy_meaning.specs.Sizes.{unknown}
use Rattle.fancy_info.specs.Sized.{size_of}
use Rattle.fancy_analysis.proofs.rounds.unknown_sizes.Given as goal

abbrev pub invariant-loop-i : goal.invariant-loop-i
invariant-loop-i l = map size_of l.sizes.items ≡ replicate l.i unknown
