use Rattle.std.proofs.Common.{◌-◌, length}
use Rattle.fancy_scanner.specs.Scans.{answers_of}
use Rattle.fancy_scanner.proofs.Kept.{MakesRoom}
use Rattle.fancy_scanner.proofs.scan_text.TreeScan.make_room.Given as goal

abbrev pub invariant-trees : goal.invariant-trees
invariant-trees l = MakesRoom l.initial.self l.self

abbrev pub decreases-trees : goal.decreases-trees
decreases-trees l = l.count - length (answers_of l.self)
