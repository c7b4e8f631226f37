use Rattle.fancy_scanner.proofs.OrderSteps.{AmongSoFar}
use Rattle.fancy_scanner.proofs.scan_text.TreeScan.find_among.Given as goal

abbrev pub invariant-trees : goal.invariant-trees
invariant-trees l = AmongSoFar l.pos l.order l.fn.self l.self l.count l.index l.found l.stopped

abbrev pub decreases-trees : goal.decreases-trees
decreases-trees l = l.index
