use Rattle.std.proofs.Common.{sym, ap, option_map}
use Rattle.fancy_scanner.specs.declared.scanner.ScanTree.{ScanTree}
use Rattle.fancy_scanner.proofs.Reading.{get_read}
use Rattle.fancy_scanner.proofs.scanner.TreeScanner.reuse.Goals as goal

pub returns : goal.returns
returns c =
    sym (ap (option_map (λ (x : ScanTree). x.reuse)) (get_read c.args.self.now.trees.items c.args.index c.index.result.now c.requires c.index.ensures))
