use Rattle.fancy_scanner.proofs.Steps.{ScanSoFar}
use Rattle.fancy_scanner.proofs.scan_text.TreeScan.find_from.Given as goal

abbrev pub invariant-trees : goal.invariant-trees
invariant-trees l = ScanSoFar l.pos l.fn.self l.self l.index l.found l.stopped

abbrev pub decreases-trees : goal.decreases-trees
decreases-trees l = l.index
