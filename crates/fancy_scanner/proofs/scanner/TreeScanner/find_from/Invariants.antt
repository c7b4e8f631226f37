use Rattle.fancy_scanner.proofs.Rules.{ScanFrom}
use Rattle.fancy_scanner.proofs.scanner.TreeScanner.find_from.Given as goal

abbrev pub invariant-trees : goal.invariant-trees
invariant-trees l = ScanFrom l.text l.pos l.initial.self l.self l.index l.found l.stopped

abbrev pub decreases-trees : goal.decreases-trees
decreases-trees l = l.index
