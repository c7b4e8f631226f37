use Rattle.std.proofs.Common.{◌++◌, ◌∷◌, [], subst, sym}
use Rattle.fancy_scanner.specs.Scanning.{AreTreesOf}
use Rattle.fancy_scanner.proofs.Rules.{one_more}
use Rattle.fancy_scanner.proofs.scanner.TreeScanner.push.Goals as goal

pub returns-clause-ok : goal.returns-clause-ok
returns-clause-ok c = λ text rules r h g.
    subst (AreTreesOf (rules ++ r ∷ []) text) (sym c.in_ok-push.ensures.items) (one_more text rules c.args.self.now.trees.items r c.args.tree h g)
