use Rattle.std.proofs.Common.{◌<◌, Ok, length, arith, ap, subst}
use Rattle.fancy_meaning.specs.Numbers.{usize_max}
use Rattle.fancy_meaning.specs.Premises.{IsText}
use Rattle.fancy_laws.proofs.Moves.{is_place_parts}
use Rattle.fancy_search.specs.Searches.{Promises, program}
use Rattle.fancy_steps.specs.Outcomes.{first_pair}
use Rattle.fancy_steps.specs.Tasks.{options_of as run_options_of, task_of}
use Rattle.fancy_program.proofs.FitsLaws.{run_place}
use Rattle.fancy_matches.proofs.Searching.{captures_sound}
use Rattle.fancy_host.proofs.rows.GroupsFromSearch.search.Goals as goal

pub invariant_of-result : goal.invariant_of-result
invariant_of-result c =
    let text = c.args.text.now in
    let options = c.args.options.now in
    let small : length text < usize_max = omega arith in
    let is_text : IsText text = record { utf8 = c.utf8.text; fits = small } in
    let at = run_place (task_of (program c.args.compiled.now) text options) c.requires.fits in
    let sound = captures_sound c.args.compiled.now text options c.in-Ok-Some.numbers is_text at c.requires.source
    (λ i from. subst (λ found. Promises i text (run_options_of options) (Ok found)) c.in-Ok-Some.field-0-is (c.in-Ok-Some.ensures.promise i from)) in
    record { has_whole = sound.0.two }

pub returns-in-Ok-Some-clause-on : goal.returns-in-Ok-Some-clause-on
returns-in-Ok-Some-clause-on c =
    let text = c.args.text.now in
    let options = c.args.options.now in
    let small : length text < usize_max = omega arith in
    let is_text : IsText text = record { utf8 = c.utf8.text; fits = small } in
    let at = run_place (task_of (program c.args.compiled.now) text options) c.requires.fits in
    let sound = captures_sound c.args.compiled.now text options c.in-Ok-Some.numbers is_text at c.requires.source
    (λ i from. subst (λ found. Promises i text (run_options_of options) (Ok found)) c.in-Ok-Some.field-0-is (c.in-Ok-Some.ensures.promise i from)) in
    (sound.0.on, (is_place_parts text (first_pair c.in-Ok-Some.numbers.items).1 sound.0.whole.to).0)

pub returns-in-Err-clause-promise : goal.returns-in-Err-clause-promise
returns-in-Err-clause-promise c i from = (c.in-Err.ensures.promise i from, c.in-Err.ensures.bounds i from)

pub returns-in-Ok-Some-clause-spans : goal.returns-in-Ok-Some-clause-spans
returns-in-Ok-Some-clause-spans c numbers is = ap first_pair is
