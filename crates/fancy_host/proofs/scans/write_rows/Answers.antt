use Rattle.std.proofs.Common.{◌≡◌, false, Ok, Err, sym, ap, ap₂, ◌∙◌, subst, arith}
use Rattle.fancy_meaning.specs.Places.{is_place}
use Rattle.fancy_scanner.specs.Scanning.{Scans}
use Rattle.fancy_scanner.specs.Scans.{answers_of, found_match, text_of}
use Rattle.fancy_scanner.specs.declared.scanner.Scan.{Scan}
use Rattle.fancy_scanner.proofs.Kept.{goes_itself, goes_twice}
use Rattle.fancy_host.specs.Codes.{no_match, ok}
use Rattle.fancy_host.specs.Hosted.{coded, failure, with_count}
use Rattle.fancy_host.specs.Scanned.{fails, finds_none, is_full, is_past, next_place, of_none}
use Rattle.fancy_host.proofs.RowsScanned.{found_so, none_written, one_written, writes_so}
use Rattle.fancy_host.proofs.scans.write_rows.Goals as goal

pub rows-init : goal.rows-init
rows-init c =
    (goes_itself c.args.scan.now, omega arith, omega arith, λ rules h. none_written rules (text_of c.args.scan.now) c.args.groups c.args.pos.now c.args.room.now)

pub returns-then-not-is_place-clause-writes : goal.returns-then-not-is_place-clause-writes
returns-then-not-is_place-clause-writes c rules h =
    let l = c.rows in
    let text = text_of c.args.scan.now in
    writes_so rules text c.args.groups c.args.pos.now c.args.room.now l.count l.at l.pos l.room (l.invariant.3 rules h) (coded no_match) c.with_count.result
    (is_past (subst (λ t. is_place t l.pos ≡ false) (c.as_bytes.ensures.value ∙ c.text-text.ensures) (sym c.is_place.ensures ∙ c.if-not-is_place.true)))
    (c.with_count.ensures ∙ ap (with_count l.count) c.coded.ensures)

pub returns-in-Err-clause-writes : goal.returns-in-Err-clause-writes
returns-in-Err-clause-writes c rules h =
    let l = c.rows in
    let text = text_of c.args.scan.now in
    let e = c.in-Err.error in
    let goes = l.invariant.0 in
    writes_so rules text c.args.groups c.args.pos.now c.args.room.now l.count l.at l.pos l.room (l.invariant.3 rules h) (failure e)
    c.with_count-in-Err.result
    (fails e (subst (λ t. Scans t l.pos rules (Err e)) goes.within (c.in-Err.ensures.promise rules (goes.still rules h))))
    (c.with_count-in-Err.ensures ∙ ap (with_count l.count) c.of_error.ensures)

pub returns-in_default-clause-writes : goal.returns-in_default-clause-writes
returns-in_default-clause-writes c rules h =
    let l = c.rows in
    let text = text_of c.args.scan.now in
    let step = c.in-Ok.step in
    let answers = answers_of c.find_from.new.self in
    let scan : Scan = record { found = found_match answers step.found; stopped = step.stopped } in
    let goes = l.invariant.0 in
    writes_so rules text c.args.groups c.args.pos.now c.args.room.now l.count l.at l.pos l.room (l.invariant.3 rules h) (of_none step.stopped)
    c.with_count-in_default.result
    (finds_none scan (subst (λ t. Scans t l.pos rules (Ok scan)) goes.within (c.in-Ok.ensures.promise rules (goes.still rules h)))
    (ap (found_match answers) c.in_default.is))
    (c.with_count-in_default.ensures ∙ ap (with_count l.count) c.of_none.ensures)

pub rows-preserved : goal.rows-preserved
rows-preserved c =
    let l = c.rows in
    let text = text_of c.args.scan.now in
    let step = c.in-Ok.step in
    let answers = answers_of c.find_from.new.self in
    let scan : Scan = record { found = found_match answers step.found; stopped = step.stopped } in
    let captures = c.in-Some-captures.captures.now in
    let goes = l.invariant.0 in
    let wide = c.width_of-width.ensures in
    let within = l.invariant.1 in
    let few = l.invariant.2 in
    let same = l.auto.room in
    let long = c.write_row.ensures.length in
    let left = c.rows-test.true in (
      goes_twice c.args.scan.now l.scan c.find_from.new.self goes c.find_from.ensures.goes_on,
      omega (arith, long, left, within),
      omega (arith, few, wide),
      λ rules h.
          one_written rules text c.args.groups c.args.pos.now c.args.room.now l.count l.at l.pos l.room (l.invariant.3 rules h)
          c.width_of-width.result wide (omega (arith, wide, left, within)) (omega (arith, left, within, same)) scan
          (record { index = c.in-Some.found.index; captures = captures })
          (subst (λ t. Scans t l.pos rules (Ok scan)) goes.within (c.in-Ok.ensures.promise rules (goes.still rules h)))
          (found_so answers step.found c.in-Some.found captures c.in-Some.is (sym c.in-Some-captures.ensures)) c.next_place.result
          (c.next_place.ensures
          ∙ ap₂ (λ t span. next_place t l.pos span) (c.as_bytes-in-rows.ensures.value ∙ c.text-text.ensures)
          (ap₂ (λ i j. (i, j)) c.start.ensures c.end.ensures ∙ c.whole-whole.ensures.span))
          c.write_row.new.room c.write_row.ensures.written,
    )

pub returns-clause-writes : goal.returns-clause-writes
returns-clause-writes c rules h =
    let l = c.rows in
    let text = text_of c.args.scan.now in
    let w = l.invariant.3 rules h in
    let wide = c.width_of-width.ensures in
    let within = l.invariant.1 in
    let same = l.auto.room in
    let full = c.rows-test.false in
    let ends = w.ends in
    writes_so rules text c.args.groups c.args.pos.now c.args.room.now l.count l.at l.pos l.room w (coded ok) c.with_count-2.result
    (is_full (omega (arith, wide, within, same, full, ends))) (c.with_count-2.ensures ∙ ap (with_count l.count) c.coded-2.ensures)
