use Rattle.std.proofs.Common.{sym, subst, []}
use Rattle.fancy_scanner.specs.Scanning.{IsScannerOf}
use Rattle.fancy_host.proofs.Answered.{none_there}
use Rattle.fancy_host.proofs.PatternsHeld.{same_as_none}
use Rattle.fancy_host.proofs.scanner.FancyScanner.take_or_new.Goals as goal

pub returns-in_ok-new-clause-held : goal.returns-in_ok-new-clause-held
returns-in_ok-new-clause-held c =
    let held = c.args.self.now.handle.scanner in
    same_as_none held c.in_ok-new.field-0.value (none_there held c.args.self.now.is_set c.args.self.now.agrees c.if-self.false)
    (λ text. subst (IsScannerOf [] text) (sym c.in_ok-new.ensures.ok) (c.new.ensures text))
