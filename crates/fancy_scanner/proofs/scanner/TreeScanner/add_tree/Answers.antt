use Rattle.fancy_scanner.specs.Scanning.{rule_of}
use Rattle.fancy_scanner.proofs.scanner.TreeScanner.add_tree.Goals as goal

pub returns-clause-ok : goal.returns-clause-ok
returns-clause-ok c = λ text rules h.
    c.in_ok-push.ensures.ok text rules (rule_of c.args.tree.now c.args.options.now c.args.backtrack_limit text) h (c.in_ok-compiled.ensures text)
