-- No scan for easy trees tells of a limit of backtracks, branches or instructions that nobody set.
use Rattle.std.proofs.Common.{◌≡◌, ◌≢◌, ℕ, zero, suc, ◌+◌, ◌*◌, ◌<◌, ◌≤◌, ◌^◌, false, All, List, [], ◌∷◌, ◌++◌, length, drop, get_or, slice_get, IsSome, Option, Some, None, Ok, refl, sym, ap, ◌∙◌, arith, length-append}
use Rattle.std.proofs.Math.Nat.{le-min}
use Rattle.std.proofs.lemmas.Bool.{true≢false}
use Rattle.std.proofs.lemmas.List.{get_or_append_left, get_or-append-add}
use Rattle.std.proofs.lemmas.List.Elements.{All-append, All-nil}
use Rattle.std.proofs.lemmas.Option.{same_Some, slice_get-get_or}
use Rattle.fancy_expr.specs.declared.error.RuntimeError.{RuntimeError}
use Rattle.fancy_matches.specs.Matchers.{numbers_in}
use Rattle.fancy_scanner.specs.Scanning.{AreEasyRuns, IsStoppedByDelegates, Rule, Scans, search_limit}
use Rattle.fancy_scanner.specs.declared.scan_limit.ScanLimit.{ScanLimit}
use Rattle.fancy_scanner.specs.declared.scan_limit.ScanLimit.TheVariants as limit
use Rattle.fancy_scanner.specs.declared.scanner.Scan.{Scan}
use Rattle.fancy_scanner.specs.declared.scanner.TreeScanner.{TreeScanner}
use Rattle.fancy_scanner.specs.declared.scanner.Stopped.{Stopped}
use Rattle.fancy_scanner.proofs.Rules.{easy_by_delegates}
use Rattle.fancy_host.specs.declared.options.FancyOptions.{FancyOptions}
use Rattle.fancy_host.specs.declared.outcome.FancyOutcome.{FancyOutcome}
use Rattle.fancy_host.specs.Codes.{code_of_run, code_of_scan_limit}
use Rattle.fancy_host.specs.Easy.{AreNoLimitRows, IsNoLimit, IsNoLimitWhereAllEasy}
use Rattle.fancy_host.specs.Hosted.{IsNoText, has_another_size, is_no_text, over}
use Rattle.fancy_host.specs.Lists.{numbers_of}
use Rattle.fancy_host.specs.Scanned as rows_of
use Rattle.fancy_host.specs.Scanned.{ComesTo, ScansIn, Stops, Writes, of_none, row_of, stopped_numbers, width_of}
use Rattle.fancy_host.proofs.EasyOutcomes.{failed_code, is_run, no_run}
use Rattle.fancy_host.proofs.RowsScanned.{all_one}
use Rattle.fancy_host.proofs.RowsWritten.{over_is}

-- ---- codes

limit_code : (l : ScanLimit) → IsSome (search_limit l) → is_run (code_of_scan_limit l) ≡ false
unfolding is_run
limit_code (limit.RuntimeError e) some = absurd (true≢false (sym some))
limit_code limit.VisitLimitExceeded some = refl
limit_code limit.MemoryLimitExceeded some = refl

told_code : (stopped : Option Stopped) → IsStoppedByDelegates stopped → is_run (stopped_numbers stopped).1 ≡ false
unfolding is_run
told_code None by = refl
told_code (Some s) by = limit_code s.limit by

none_code : (stopped : Option Stopped) → IsStoppedByDelegates stopped → is_run (of_none stopped).code ≡ false
unfolding is_run
none_code None by = refl
none_code (Some s) by = limit_code s.limit by

no_text_code : {text : List ℕ} {o : FancyOptions} {outcome : FancyOutcome} → IsNoText text o outcome →
    (is_run outcome.code ≡ false) × (outcome.count ≡ 0)
unfolding is_run
no_text_code (has_another_size not) = (refl, refl)
no_text_code (is_no_text size bad) = (refl, refl)

-- ---- rows

-- it tells of no limit of its run
abbrev IsQuiet : List ℕ → Type 0
IsQuiet row = (limit : RuntimeError) → get_or row 2 0 ≢ code_of_run limit

quiet_row : (groups index : ℕ) (numbers : List ℕ) (stopped : Option Stopped) → IsStoppedByDelegates stopped →
    IsQuiet (row_of groups index numbers stopped)
quiet_row groups index numbers stopped by = no_run (stopped_numbers stopped).1 (told_code stopped by)

three_at_least : (groups : ℕ) → 2 < width_of groups
three_at_least groups = le-min (omega arith) (omega arith)

module _ (width : ℕ) (wide : 2 < width) where
  abbrev AreWide : List (List ℕ) → Type 0
  AreWide rows = All (λ row. length row ≡ width) rows

  wide_rest : (row : List ℕ) (rows : List (List ℕ)) → AreWide (row ∷ rows) → AreWide rows
  wide_rest row rows all k d lt = all (suc k) d (omega (arith, lt))

  row_fits : (rows : List (List ℕ)) → AreWide rows → (k : ℕ) → k < length rows → k * width + 2 < length (numbers_of rows)
  row_fits [] all k lt = absurd (omega (arith, lt))
  row_fits (row ∷ rows) all zero lt =
      let first : length row ≡ width = all 0 [] (omega arith) in
      omega (arith, length-append row (numbers_of rows), first, wide)
  row_fits (row ∷ rows) all (suc k) lt =
      let first : length row ≡ width = all 0 [] (omega arith) in
      let rest = row_fits rows (wide_rest row rows all) k (omega (arith, lt)) in
      let step : suc k * width ≡ width + k * width = omega arith in
      omega (arith, length-append row (numbers_of rows), first, rest, step)

  in_row : (rows : List (List ℕ)) → AreWide rows → (k : ℕ) → k < length rows →
      get_or (numbers_of rows) (k * width + 2) 0 ≡ get_or (get_or rows k []) 2 0
  in_row [] all k lt = absurd (omega (arith, lt))
  in_row (row ∷ rows) all zero lt =
      let first : length row ≡ width = all 0 [] (omega arith) in
      let place : 0 * width + 2 ≡ 2 = omega arith in
      ap (λ n. get_or (row ++ numbers_of rows) n 0) place ∙ get_or_append_left row (numbers_of rows) 0 2 (omega (arith, first, wide))
  in_row (row ∷ rows) all (suc k) lt =
      let first : length row ≡ width = all 0 [] (omega arith) in
      let step : suc k * width ≡ width + k * width = omega arith in
      let place : suc k * width + 2 ≡ length row + (k * width + 2) = omega (arith, first, step) in
      ap (λ n. get_or (row ++ numbers_of rows) n 0) place ∙ get_or-append-add row (numbers_of rows) (k * width + 2) 0
      ∙ in_row rows (wide_rest row rows all) k (omega (arith, lt))

  quiet_rows : (groups : ℕ) → width ≡ width_of groups → (rows : List (List ℕ)) → AreWide rows → All IsQuiet rows → (old : List ℕ) →
      length (numbers_of rows) ≤ length old → AreNoLimitRows groups (over (numbers_of rows) old) (length rows)
  quiet_rows groups is rows all quiet old room k limit lt same =
      let numbers = numbers_of rows in
      let at = k * width + 2 in
      let fits = row_fits rows all k lt in
      let more = drop (length numbers) old in
      let within : at < length (numbers ++ more) = omega (arith, length-append numbers more, fits) in
      let there : at ≡ k * width_of groups + 2 = ap (λ w. k * w + 2) is in
      let told =
      sym (slice_get-get_or (numbers ++ more) at 0 within) ∙ ap (λ xs. slice_get xs at) (sym (over_is numbers old room))
      ∙ ap (slice_get (over numbers old)) there ∙ same in
      quiet k [] lt limit (sym (in_row rows all k lt) ∙ sym (get_or_append_left numbers more 0 at fits) ∙ same_Some _ _ told)

-- ---- rules for easy trees

module _ (rules : List Rule) (text : List ℕ) (easy : AreEasyRuns text rules) (small : length text < 2 ^ 60) where
  stopped_so : (pos : ℕ) (scan : Scan) → Scans text pos rules (Ok scan) → IsStoppedByDelegates scan.stopped
  stopped_so pos scan h =
      easy_by_delegates text pos rules scan.found scan.stopped small easy
      (record { replies = h.0; each = h.1; first = h.2; stops = h.3 })

  comes_quiet : {groups from to : ℕ} {rows : List (List ℕ)} → ComesTo rules text groups from rows to → All IsQuiet rows
  comes_quiet rows_of.stays = All-nil IsQuiet
  comes_quiet {groups} (rows_of.by_match {rows} {pos} comes scan found scans is) =
      All-append IsQuiet rows _ (comes_quiet comes)
      (all_one IsQuiet _ (quiet_row groups found.index (numbers_in found.captures) scan.stopped (stopped_so pos scan scans)))

  stops_code : {groups room to : ℕ} {rows : List (List ℕ)} {outcome : FancyOutcome} → Stops rules text groups room rows to outcome →
      is_run outcome.code ≡ false
  unfolding is_run
  stops_code (rows_of.is_full less) = refl
  stops_code (rows_of.is_past past) = refl
  stops_code (rows_of.finds_none scan scans none) = none_code scan.stopped (stopped_so _ scan scans)
  stops_code (rows_of.fails e h) = failed_code e h.1

  writes_easy : {groups from to : ℕ} {old new : List ℕ} {outcome : FancyOutcome} → Writes rules text groups from old to new outcome →
      IsNoLimit outcome × AreNoLimitRows groups new outcome.count
  writes_easy {groups} (rows_of.writes rows wide room comes stops) =
      (no_run _ (stops_code stops), quiet_rows (width_of groups) (three_at_least groups) groups refl rows wide (comes_quiet comes) _ room)

pub scan_easy : (text : List ℕ) (o : FancyOptions) {groups from to : ℕ} {old new : List ℕ} {held : Option TreeScanner} {outcome : FancyOutcome} →
    ScansIn text o groups from old held to new outcome → IsNoLimitWhereAllEasy held text groups new outcome
scan_easy text o (rows_of.unscanned unread) rules held easy small =
    let code = no_text_code unread in
    let none = code.1 in
    (no_run _ code.0, λ k limit lt same. absurd (omega (arith, lt, none)))
scan_easy text o (rows_of.scanned size utf8 h) rules held easy small = writes_easy rules text easy small (h rules held)
