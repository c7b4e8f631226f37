use Rattle.std.proofs.Common.{◌<◌, length, Some, None, Ok, Err, refl, ap, ◌∙◌, arith}
use Rattle.fancy_meaning.specs.Numbers.{usize_max}
use Rattle.fancy_meaning.specs.Premises.{IsText}
use Rattle.fancy_search.specs.Scratches.{passed_of}
use Rattle.fancy_steps.specs.Tasks.{options_of as run_options_of}
use Rattle.fancy_matches.specs.Matchers.{cursor_of}
use Rattle.fancy_host.specs.Codes.{no_match, ok}
use Rattle.fancy_host.specs.Hosted.{coded, compiled_of, failure_by, with_count}
use Rattle.fancy_host.proofs.LimitsPassed.{stays_so}
use Rattle.fancy_host.proofs.RowsWritten.{is_wide, none_written, one_written, stops_ended, stops_failed, stops_full, writes_so}
use Rattle.fancy_host.proofs.Widths.{width_is_some}
use Rattle.fancy_host.proofs.tree.CompiledTree.write_rows.Goals as goal

pub rows-init : goal.rows-init
rows-init g c = (
  none_written g.F.Row.form c.args.width (compiled_of c.args.self.now) c.args.text.now (run_options_of c.args.options.now)
      (cursor_of c.args.cursor.now) c.args.room.now,
  refl,
  c.requires.passed,
  refl,
  c.requires.suits,
)

pub returns-in-Ok-None-clause-writes : goal.returns-in-Ok-None-clause-writes
returns-in-Ok-None-clause-writes g c =
    let form = g.F.Row.form in
    let width = c.args.width in
    let compiled = compiled_of c.args.self.now in
    let text = c.args.text.now in
    let o = run_options_of c.args.options.now in
    let from = cursor_of c.args.cursor.now in
    let old = c.args.room.now in
    let l = c.rows in
    let at = cursor_of l.cursor in
    let to = cursor_of c.next_found.new.cursor in
    let w = l.invariant.0 in
    let small : length text < usize_max = omega arith in
    let is : IsText text = record { utf8 = c.utf8.text; fits = small } in
    let show = g.F.FromSearch.show in
    let seen = g.F.FromSearch.seen text in
    let steps = c.next_found.ensures.steps in
    let passed = passed_of c.next_found.new.scratch in
    let was = c.in-Ok-None.is ∙ ap Ok c.in-Ok-None.field-0-is in
    writes_so form width compiled text o from old l.count l.at at to l.room w passed (coded no_match) c.with_count.result
    (stops_ended form width compiled text o is from old l.count l.at at to l.room w show seen c.next_found.result steps passed
    (stays_so c.next_found.result (Ok None) passed was (c.next_found.ensures.stays l.invariant.2)) was)
    (c.with_count.ensures ∙ ap (with_count l.count) c.coded.ensures)

pub returns-in-Err-clause-writes : goal.returns-in-Err-clause-writes
returns-in-Err-clause-writes g c =
    let form = g.F.Row.form in
    let width = c.args.width in
    let compiled = compiled_of c.args.self.now in
    let text = c.args.text.now in
    let o = run_options_of c.args.options.now in
    let from = cursor_of c.args.cursor.now in
    let old = c.args.room.now in
    let l = c.rows in
    let at = cursor_of l.cursor in
    let to = cursor_of c.next_found.new.cursor in
    let w = l.invariant.0 in
    let small : length text < usize_max = omega arith in
    let is : IsText text = record { utf8 = c.utf8.text; fits = small } in
    let show = g.F.FromSearch.show in
    let seen = g.F.FromSearch.seen text in
    let steps = c.next_found.ensures.steps in
    let passed = passed_of c.next_found.new.scratch in
    let e = c.in-Err.error in
    writes_so form width compiled text o from old l.count l.at at to l.room w passed (failure_by passed e) c.with_count-in-Err.result
    (stops_failed form width compiled text o is from old l.count l.at at to l.room w show seen c.next_found.result steps passed e
    (stays_so c.next_found.result (Err e) passed c.in-Err.is (c.next_found.ensures.stays l.invariant.2)) c.in-Err.is)
    (c.with_count-in-Err.ensures ∙ ap (with_count l.count) (c.of_failed.ensures ∙ ap (λ p. failure_by p e) c.passed.ensures))

pub rows-preserved : goal.rows-preserved
rows-preserved g c =
    let form = g.F.Row.form in
    let width = c.args.width in
    let s = c.args.self.now in
    let compiled = compiled_of s in
    let text = c.args.text.now in
    let o = run_options_of c.args.options.now in
    let from = cursor_of c.args.cursor.now in
    let old = c.args.room.now in
    let l = c.rows in
    let at = cursor_of l.cursor in
    let to = cursor_of c.next_found.new.cursor in
    let w = l.invariant.0 in
    let small : length text < usize_max = omega arith in
    let is : IsText text = record { utf8 = c.utf8.text; fits = small } in
    let show = g.F.FromSearch.show in
    let seen = g.F.FromSearch.seen text in
    let steps = c.next_found.ensures.steps in
    let found = c.in-Ok-Some.found in
    let was = c.in-Ok-Some.is ∙ ap Ok c.in-Ok-Some.field-0-is in
    let row = g.F.Row.row found in
    let tells = c.write.ensures.tells text in
    let wide = width_is_some form s width c.requires.width in
    let long = is_wide form width compiled text o is from old l.count l.at at to l.room w show seen c.next_found.result steps found was row tells
    s refl c.requires.width s.source in
    let same = l.invariant.1 in (
      one_written form width compiled text o is from old l.count l.at at to l.room w show seen c.next_found.result steps found was row tells
          long wide (omega (arith, same)) c.write.new.room c.write.ensures.written,
      omega (arith, same),
      stays_so c.next_found.result (Ok (Some found)) (passed_of c.next_found.new.scratch) was (c.next_found.ensures.stays l.invariant.2),
      c.next_found.ensures.limits ∙ l.invariant.3,
      c.next_found.ensures.suits,
    )

pub returns-clause-writes : goal.returns-clause-writes
returns-clause-writes g c =
    let form = g.F.Row.form in
    let width = c.args.width in
    let compiled = compiled_of c.args.self.now in
    let text = c.args.text.now in
    let o = run_options_of c.args.options.now in
    let from = cursor_of c.args.cursor.now in
    let old = c.args.room.now in
    let l = c.rows in
    let at = cursor_of l.cursor in
    let w = l.invariant.0 in
    let same = l.invariant.1 in
    writes_so form width compiled text o from old l.count l.at at at l.room w (passed_of l.scratch) (coded ok) c.with_count-2.result
    (stops_full form width compiled text o from old l.count l.at at at l.room w (passed_of l.scratch) l.invariant.2 (omega (arith, same)))
    (c.with_count-2.ensures ∙ ap (with_count l.count) c.coded-2.ensures)

pub returns-in-Ok-None-clause-limits : goal.returns-in-Ok-None-clause-limits
returns-in-Ok-None-clause-limits g c = c.next_found.ensures.limits ∙ c.rows.invariant.3

pub returns-in-Err-clause-limits : goal.returns-in-Err-clause-limits
returns-in-Err-clause-limits g c = c.next_found.ensures.limits ∙ c.rows.invariant.3

pub returns-clause-limits : goal.returns-clause-limits
returns-clause-limits g c = c.rows.invariant.3

pub returns-clause-suits : goal.returns-clause-suits
returns-clause-suits g c = c.rows.invariant.4
