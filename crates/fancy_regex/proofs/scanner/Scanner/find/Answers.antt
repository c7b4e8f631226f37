use Rattle.std.proofs.Common.{◌<◌, ◌^◌, IsTrue, List, ℕ, length, sym, subst}
use Rattle.fancy_meaning.specs.Places.{is_place}
use Rattle.std.proofs.lemmas.Str.{IsCharBoundary-start}
use Rattle.fancy_laws.proofs.Characters.{place_of_cut}
use Rattle.fancy_scanner.specs.Scanning.{AreEasy, AreEasyRuns, Scans}
use Rattle.fancy_regex.specs.Scanners.{scan_result}
use Rattle.fancy_regex.proofs.scanner.Scanner.find.Goals as goal

pub find_from-step-requires : goal.find_from-step-requires
find_from-step-requires c = subst (λ (t : List ℕ). IsTrue (is_place t 0)) (sym c.scan-scan.ensures.within)
    (place_of_cut c.args.text.now 0 (IsCharBoundary-start c.args.text.now c.utf8.text))

pub returns-clause-first : goal.returns-clause-first
returns-clause-first c = λ rules h. record {
  scan = c.find_from-step.new.self;
  promise =
      subst (λ (t : List ℕ). Scans t 0 rules (scan_result c.find_from-step.new.self c.find_from-step.result)) c.scan-scan.ensures.within
      (c.find_from-step.ensures.promise rules (c.scan-scan.ensures.right rules h));
  whole = c.find_from-step.ensures.whole;
  limits = c.find_from-step.ensures.limits;
}

pub returns-clause-easy : goal.returns-clause-easy
returns-clause-easy c = λ rules h easy short.
    let same = sym c.scan-scan.ensures.within in
    c.find_from-step.ensures.easy rules (c.scan-scan.ensures.right rules h) (subst (λ (t : List ℕ). AreEasy t rules) same easy)
    (subst (λ (t : List ℕ). length t < 2 ^ 60) same short)

pub returns-clause-easy_run : goal.returns-clause-easy_run
returns-clause-easy_run c = λ rules h easy short.
    let same = sym c.scan-scan.ensures.within in
    c.find_from-step.ensures.easy_run rules (c.scan-scan.ensures.right rules h)
    (subst (λ (t : List ℕ). AreEasyRuns t rules) same easy) (subst (λ (t : List ℕ). length t < 2 ^ 60) same short)
