use Rattle.std.proofs.Common.{sym, ap, ◌∙◌}
use Rattle.fancy_scanner.proofs.Passed.{passed_of}
use Rattle.fancy_scanner.proofs.Reading.{get_read}
use Rattle.fancy_scanner.proofs.scanner.TreeScanner.passed.Goals as goal

pub returns : goal.returns
returns c =
    c.passed.ensures
    ∙ sym (ap passed_of (get_read c.args.self.now.trees.items c.args.index c.index.result.now c.requires c.index.ensures))
