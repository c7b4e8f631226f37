use Rattle.std.proofs.Common.{◌≡◌, map, drop}
use Rattle.fancy_info.specs.Infos.{info_hard}
use Rattle.fancy_analysis.specs.Made.{some_true}
use Rattle.fancy_analysis.proofs.make.has_hard.Given as goal

abbrev pub invariant-loop-child : goal.invariant-loop-child
invariant-loop-child l = some_true (map info_hard (drop l.child-index l.children)) ≡ some_true (map info_hard l.children)
