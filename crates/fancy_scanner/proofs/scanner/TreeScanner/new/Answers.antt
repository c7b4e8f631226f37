use Rattle.std.proofs.Common.{[], subst, sym}
use Rattle.fancy_scanner.specs.Scanning.{AreTreesOf}
use Rattle.fancy_scanner.proofs.scanner.TreeScanner.new.Goals as goal

pub returns : goal.returns
returns c = λ text. subst (AreTreesOf [] text) (sym c.new.ensures.items) tt
