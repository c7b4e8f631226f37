use Rattle.std.proofs.Common.{◌<◌, ℕ, List, None, Some, Ok, length, arith, ap, subst}
use Rattle.fancy_meaning.specs.Answer.{answer, search_of}
use Rattle.fancy_meaning.specs.MatchState.{Span}
use Rattle.fancy_meaning.specs.Numbers.{usize_max}
use Rattle.fancy_meaning.specs.Premises.{plan}
use Rattle.fancy_laws.proofs.Moves.{is_place_parts}
use Rattle.fancy_program.proofs.FitsLaws.{run_place}
use Rattle.fancy_search.specs.Searches.{PromisesPair, program}
use Rattle.fancy_steps.specs.Tasks.{options_of as run_options_of, task_of}
use Rattle.fancy_matches.proofs.Searching.{pair_shown, pair_sound}
use Rattle.fancy_matches.proofs.searches.MatchFromSearch.search.Goals as goal

pub invariant_of-result : goal.invariant_of-result
invariant_of-result c =
    let text = c.args.text.now in
    let o = c.args.options.now in
    let small : length text < usize_max = omega arith in
    let at = run_place (task_of (program c.args.compiled.now) text o) c.requires.fits in
    record {
      in_text = (pair_sound c.args.compiled.now text o c.in-Ok-Some.start c.in-Ok-Some.end (record { utf8 = c.utf8.text; fits = small })
          at c.requires.source
          (λ i from. subst (λ found. PromisesPair i text (run_options_of o) (Ok found)) c.in-Ok-Some.field-0-is (c.in-Ok-Some.ensures.promise i from))).0;
    }

pub returns-in-Ok-None-clause-promise : goal.returns-in-Ok-None-clause-promise
returns-in-Ok-None-clause-promise c i from =
    let text = c.args.text.now in
    let o = run_options_of c.args.options.now in
    let found = subst (λ found. PromisesPair i text o (Ok found)) c.in-Ok-None.field-0-is (c.in-Ok-None.ensures.promise i from) in
    (found.0, pair_shown text (answer (search_of (plan i) text o)) None found.1)

pub returns-in-Ok-Some-clause-promise : goal.returns-in-Ok-Some-clause-promise
returns-in-Ok-Some-clause-promise c i from =
    let text = c.args.text.now in
    let o = run_options_of c.args.options.now in
    let span : Span = (c.in-Ok-Some.start, c.in-Ok-Some.end) in
    let found = subst (λ found. PromisesPair i text o (Ok found)) c.in-Ok-Some.field-0-is (c.in-Ok-Some.ensures.promise i from) in
    (found.0, pair_shown text (answer (search_of (plan i) text o)) (Some span) found.1)

pub returns-in-Ok-Some-clause-on : goal.returns-in-Ok-Some-clause-on
returns-in-Ok-Some-clause-on c =
    let text = c.args.text.now in
    let o = c.args.options.now in
    let small : length text < usize_max = omega arith in
    let at = run_place (task_of (program c.args.compiled.now) text o) c.requires.fits in
    let sound = pair_sound c.args.compiled.now text o c.in-Ok-Some.start c.in-Ok-Some.end (record { utf8 = c.utf8.text; fits = small })
    at c.requires.source
    (λ i from. subst (λ found. PromisesPair i text (run_options_of o) (Ok found)) c.in-Ok-Some.field-0-is (c.in-Ok-Some.ensures.promise i from)) in
    (sound.1, (is_place_parts text c.in-Ok-Some.end sound.0.to).0)

pub returns-in-Err-clause-promise : goal.returns-in-Err-clause-promise
returns-in-Err-clause-promise c i from = c.in-Err.ensures.promise i from

pub returns-in-Ok-Some-clause-spans : goal.returns-in-Ok-Some-clause-spans
returns-in-Ok-Some-clause-spans c numbers is = ap (λ (p : List ℕ × Span). p.1) is
