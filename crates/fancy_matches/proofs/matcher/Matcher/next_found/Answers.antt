use Rattle.std.proofs.Common.{◌≡◌, ◌<◌, [], true, length, Some, Ok, Err, refl, ap, ◌∙◌, sym, subst, arith}
use Rattle.fancy_meaning.specs.Fits.{run_fits}
use Rattle.fancy_meaning.specs.Numbers.{usize_max}
use Rattle.fancy_search.specs.Searches.{HasSource, program}
use Rattle.fancy_steps.specs.SearchLimits.{StaysWithin, passed_by}
use Rattle.fancy_search.specs.Scratches.{Suits, cost_of}
use Rattle.fancy_steps.specs.Tasks.{options_of as run_options_of, task_of}
use Rattle.fancy_matches.specs.Matchers.{GivesBy, compiled_of, cursor_of}
use Rattle.fancy_matches.proofs.Searching.{fits_listed}
use Rattle.fancy_matches.proofs.Stepping.{easy_step, error_within, gives_error, gives_none, gives_some, stays_limited}
use Rattle.fancy_matches.proofs.matcher.Matcher.next_found.Goals as goal

pub returns-in-Ok-None-clause-list : goal.returns-in-Ok-None-clause-list
returns-in-Ok-None-clause-list g c =
    let text = c.args.text.now in
    let small : length text < usize_max = omega arith in
    gives_none g.F.FromSearch.show (g.F.FromSearch.seen text) c.args.self.now text (record { utf8 = c.utf8.text; fits = small })
    (run_options_of c.for_text-options.result) c.for_text-options.ensures
    (cursor_of c.args.cursor.now)
    (cursor_of c.next_found.new.cursor) c.next_found.result c.deref.result.now c.deref.ensures c.next_found.ensures.steps
    (c.in-Ok-None.is ∙ ap Ok c.in-Ok-None.field-0-is)

pub returns-in-Ok-Some-clause-list : goal.returns-in-Ok-Some-clause-list
returns-in-Ok-Some-clause-list g c =
    let text = c.args.text.now in
    let small : length text < usize_max = omega arith in
    gives_some g.F.FromSearch.show (g.F.FromSearch.seen text) c.args.self.now text (record { utf8 = c.utf8.text; fits = small })
    (run_options_of c.for_text-options.result) c.for_text-options.ensures
    (cursor_of c.args.cursor.now)
    (cursor_of c.next_found.new.cursor) c.next_found.result c.deref.result.now c.deref.ensures c.next_found.ensures.steps c.in-Ok-Some.found
    (c.in-Ok-Some.is ∙ ap Ok c.in-Ok-Some.field-0-is)

pub returns-in-Err-clause-list : goal.returns-in-Err-clause-list
returns-in-Err-clause-list g c i o h =
    let text = c.args.text.now in
    let small : length text < usize_max = omega arith in
    let from = cursor_of c.args.cursor.now in
    subst (GivesBy i text o g.F.FromSearch.show (g.F.FromSearch.seen text) from (Some (Err c.in-Err.error))) (sym c.end.ensures)
    (gives_error g.F.FromSearch.show (g.F.FromSearch.seen text) c.args.self.now text (record { utf8 = c.utf8.text; fits = small })
    (run_options_of c.for_text-options.result) c.for_text-options.ensures from
    (cursor_of c.next_found.new.cursor) c.next_found.result c.deref.result.now c.deref.ensures c.next_found.ensures.steps c.in-Err.error c.in-Err.is i o h)

pub returns-in-Err-clause-further : goal.returns-in-Err-clause-further
returns-in-Err-clause-further g c =
    let matcher = c.args.self.now in
    let text = c.args.text.now in
    let small : length text < usize_max = omega arith in
    let within = error_within g.F.FromSearch.show (g.F.FromSearch.seen text) matcher text (record { utf8 = c.utf8.text; fits = small })
    (run_options_of c.for_text-options.result) c.for_text-options.ensures
    (cursor_of c.args.cursor.now)
    (cursor_of c.next_found.new.cursor) c.next_found.result c.deref.result.now c.deref.ensures c.next_found.ensures.steps
    matcher.source c.in-Err.error c.in-Err.is in
    let ends = ap (λ s. s.pos) c.end.ensures in
    omega (arith, within, ends, small)

pub returns-in-Err-clause-easy : goal.returns-in-Err-clause-easy
returns-in-Err-clause-easy g c =
    let text = c.args.text.now in
    let small : length text < usize_max = omega arith in
    easy_step g.F.FromSearch.show (g.F.FromSearch.seen text) c.args.self.now text (record { utf8 = c.utf8.text; fits = small })
    (run_options_of c.for_text-options.result) c.for_text-options.ensures (cursor_of c.args.cursor.now)
    (cursor_of c.next_found.new.cursor) c.next_found.result c.deref.result.now c.deref.ensures c.next_found.ensures.steps c.in-Err.error c.in-Err.is

pub next_found-requires : goal.next_found-requires
next_found-requires g c k =
    let matcher = c.args.self.now in
    let fits = subst (λ k. run_fits (task_of (program k) [] matcher.options.run) ≡ true) (sym c.deref.ensures) matcher.fits in (
      (refl, tt),
      (
        fits_listed (program c.deref.result.now) matcher.options.run c.for_text-options.result matcher.options.backtrack_limit c.args.text.now fits
            c.for_text-options.ensures,
        (
          subst HasSource (sym c.deref.ensures) matcher.source,
          subst (λ k. Suits k c.limit.new.self) (sym c.deref.ensures)
              (c.limit.ensures.suits (compiled_of matcher) matcher.suits),
        ),
      ),
    )

pub returns-in-Ok-None-clause-stays : goal.returns-in-Ok-None-clause-stays
returns-in-Ok-None-clause-stays g c =
    subst (λ r. StaysWithin r (passed_by c.args.self.now.options.limits (cost_of c.next_found.new.scratch))) (c.in-Ok-None.is ∙ ap Ok c.in-Ok-None.field-0-is)
    (stays_limited c.next_found.result c.next_found.new.scratch c.args.self.now.options.limits (c.next_found.ensures.limits ∙ c.limit.ensures.limits)
    (c.next_found.ensures.stays c.limit.ensures.passed))

pub returns-in-Ok-Some-clause-stays : goal.returns-in-Ok-Some-clause-stays
returns-in-Ok-Some-clause-stays g c =
    subst (λ r. StaysWithin r (passed_by c.args.self.now.options.limits (cost_of c.next_found.new.scratch))) (c.in-Ok-Some.is ∙ ap Ok c.in-Ok-Some.field-0-is)
    (stays_limited c.next_found.result c.next_found.new.scratch c.args.self.now.options.limits (c.next_found.ensures.limits ∙ c.limit.ensures.limits)
    (c.next_found.ensures.stays c.limit.ensures.passed))

pub returns-in-Err-clause-stays : goal.returns-in-Err-clause-stays
returns-in-Err-clause-stays g c =
    subst (λ r. StaysWithin r (passed_by c.args.self.now.options.limits (cost_of c.next_found.new.scratch))) c.in-Err.is
    (stays_limited c.next_found.result c.next_found.new.scratch c.args.self.now.options.limits (c.next_found.ensures.limits ∙ c.limit.ensures.limits)
    (c.next_found.ensures.stays c.limit.ensures.passed))
