use Rattle.std.proofs.Common.{sym, ◌∙◌, subst}
use Rattle.fancy_scanner.specs.Scanning.{IsScannerOf}
use Rattle.fancy_host.specs.Scanned.{Writes, scanned, unscanned}
use Rattle.fancy_host.proofs.Answered.{none_there}
use Rattle.fancy_host.proofs.EasyScans.{scan_easy}
use Rattle.fancy_host.proofs.PatternsHeld.{same_as_held, same_as_none}
use Rattle.fancy_host.proofs.fancy_scan.Goals as goal

pub returns-in-Err-clause-scans : goal.returns-in-Err-clause-scans
returns-in-Err-clause-scans c = unscanned c.in-Err.ensures

pub returns-then-not-scanner-clause-scans : goal.returns-then-not-scanner-clause-scans
returns-then-not-scanner-clause-scans c =
    let a = c.args in
    let held = a.scanner.now.handle.scanner in
    let same = c.in-Ok.ensures.0 in
    scanned c.in-Ok.ensures.1 c.in-Ok.ensures.2
    (λ rules h.
    subst (λ t. Writes rules t a.groups a.pos.now a.rows.now c.scan.new.pos c.scan.new.room c.scan.result) same
    (c.scan.ensures.writes rules
    (subst (λ t. IsScannerOf rules t c.new.result) (sym same)
    (same_as_none held c.new.result (none_there held a.scanner.now.is_set a.scanner.now.agrees c.if-not-scanner.true) c.new.ensures rules a.text.now h))))

pub returns-clause-scans : goal.returns-clause-scans
returns-clause-scans c =
    let a = c.args in
    let held = a.scanner.now.handle.scanner in
    let same = c.in-Ok.ensures.0 in
    let v = c.into_scanner-held.result.value in
    scanned c.in-Ok.ensures.1 c.in-Ok.ensures.2
    (λ rules h.
    subst (λ t. Writes rules t a.groups a.pos.now a.rows.now c.scan-outcome.new.pos c.scan-outcome.new.room c.scan-outcome.result) same
    (c.scan-outcome.ensures.writes rules
    (subst (λ t. IsScannerOf rules t c.deref_mut.result.now) (sym same)
    (subst (IsScannerOf rules a.text.now) (sym c.deref_mut.ensures.value)
    (same_as_held held v (sym c.take.ensures.held ∙ c.into_scanner-held.ensures) rules a.text.now h)))))

pub returns-in-Err-clause-easy : goal.returns-in-Err-clause-easy
returns-in-Err-clause-easy c = scan_easy c.args.text.now c.args.options.now (returns-in-Err-clause-scans c)

pub returns-then-not-scanner-clause-easy : goal.returns-then-not-scanner-clause-easy
returns-then-not-scanner-clause-easy c = scan_easy c.args.text.now c.args.options.now (returns-then-not-scanner-clause-scans c)

pub returns-clause-easy : goal.returns-clause-easy
returns-clause-easy c = scan_easy c.args.text.now c.args.options.now (returns-clause-scans c)
