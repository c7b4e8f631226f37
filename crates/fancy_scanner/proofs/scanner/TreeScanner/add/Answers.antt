use Rattle.std.proofs.Common.{refl}
use Rattle.fancy_scanner.specs.Scanning.{limits_in}
use Rattle.fancy_scanner.proofs.scanner.TreeScanner.add.Goals as goal

pub returns-clause-ok : goal.returns-clause-ok
returns-clause-ok c = λ text rules i o h g.
    c.in_ok-push.ensures.ok text rules (record { input = i; options = o; limits = limits_in c.args.matcher }) h
    (record { matcher = g; reuse = tt; limits = refl })
