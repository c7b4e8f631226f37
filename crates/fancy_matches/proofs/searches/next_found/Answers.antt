use Rattle.std.proofs.Common.{◌≡◌, ◌<◌, ◌≤◌, ℕ, IfSome, List, length, true, false, None, Some, Ok, Err, refl, sym, ap, ◌∙◌, subst, arith}
use Rattle.std.proofs.lemmas.Result.{err_from_is_err_and}
use Rattle.fancy_meaning.specs.MatchState.{Span}
use Rattle.fancy_meaning.specs.Numbers.{usize_max}
use Rattle.fancy_meaning.specs.Places.{is_place}
use Rattle.fancy_meaning.specs.Premises.{Input, IsText}
use Rattle.fancy_steps.specs.Outcomes.{first_pair}
use Rattle.fancy_steps.specs.Tasks.{options_of as run_options_of}
use Rattle.fancy_search.specs.Searches.{IsCompiledFrom}
use Rattle.fancy_matches.specs.Listing.{after, is_listed}
use Rattle.fancy_matches.specs.Matchers.{EndsOn, Shows, StepsBy, cursor_of}
use Rattle.fancy_matches.proofs.Stepping.{GoesOn, at_first, found_further, none_at_end, passed_on, search_error, search_fits, search_listed, search_none, search_past}
use Rattle.fancy_matches.proofs.searches.next_found.Goals as goal

pub searches-init : goal.searches-init
searches-init g c = record {
  goes = at_first c.args.compiled.now c.args.text.now (run_options_of c.args.options.now) (cursor_of c.args.cursor.now);
  limits = refl;
  stays = λ none. none;
  suits = c.requires.suits;
}

pub search-requires : goal.search-requires
search-requires g c k =
    let compiled = c.args.compiled.now in
    let text = c.args.text.now in
    let base = c.args.options.now in
    let from = cursor_of c.args.cursor.now in
    let st = cursor_of c.searches.cursor in
    let at = sym (subst (λ t. true ≡ is_place t st.pos) c.as_bytes.ensures.value c.searches-test.ensures) in
    let small : length text < usize_max = omega arith in
    let is : IsText text = record { utf8 = c.utf8.text; fits = small } in
    let here = c.options-here.result in
    ((refl, tt), (search_fits compiled text is base here from st at c.options-here.ensures c.requires.fits, (c.requires.source, c.searches.invariant.suits)))

pub returns-in_err-search-clause-steps : goal.returns-in_err-search-clause-steps
returns-in_err-search-clause-steps g c =
    let compiled = c.args.compiled.now in
    let text = c.args.text.now in
    let base = c.args.options.now in
    let from = cursor_of c.args.cursor.now in
    let st = cursor_of c.searches.cursor in
    let at = sym (subst (λ t. true ≡ is_place t st.pos) c.as_bytes.ensures.value c.searches-test.ensures) in
    let small : length text < usize_max = omega arith in
    let is : IsText text = record { utf8 = c.utf8.text; fits = small } in
    let here = c.options-here.result in
    let form = g.F.FromSearch in
    let p = err_from_is_err_and c.from_residual.result c.from_residual.ensures.1 in
    rw (p.1, p.2)
    (search_error compiled text is base here from st at c.options-here.ensures c.searches.invariant.goes form.show (form.seen text)
    (Err c.in_err-search.field-0.0) c.in_err-search.ensures.promise c.in_err-search.field-0.0 refl)

pub returns-in-None-clause-steps : goal.returns-in-None-clause-steps
returns-in-None-clause-steps g c =
    let compiled = c.args.compiled.now in
    let text = c.args.text.now in
    let base = c.args.options.now in
    let from = cursor_of c.args.cursor.now in
    let st = cursor_of c.searches.cursor in
    let at = sym (subst (λ t. true ≡ is_place t st.pos) c.as_bytes.ensures.value c.searches-test.ensures) in
    let small : length text < usize_max = omega arith in
    let is : IsText text = record { utf8 = c.utf8.text; fits = small } in
    let here = c.options-here.result in
    let form = g.F.FromSearch in
    let found = λ (i : Input) (of : IsCompiledFrom i compiled).
    subst (λ f. Shows i text (run_options_of here) form.show (form.seen text) (Ok f)) c.in-None.is (c.in_ok-search.ensures.promise i of) in
    subst (λ to. (i : Input) → IsCompiledFrom i compiled → StepsBy i text (run_options_of base) form.show (form.seen text) from (Ok None) to)
    (sym c.end.ensures)
    (search_none compiled text is base here from st at c.options-here.ensures c.searches.invariant.goes form.show (form.seen text)
    (Ok None) found refl)

pub pass-requires : goal.pass-requires
pass-requires g c =
    let text = c.args.text.now in
    let here = c.options-here.result in
    let on = subst (λ f. IfSome f (λ x. EndsOn text here.pos (g.F.FromSearch.span x))) c.in-Some.is c.in_ok-search.ensures.on in
    subst (λ (p : Span). p.1 ≤ length text) (sym c.span-start.ensures) on.1

pub returns-then-pass-clause-steps : goal.returns-then-pass-clause-steps
returns-then-pass-clause-steps g c =
    let compiled = c.args.compiled.now in
    let text = c.args.text.now in
    let base = c.args.options.now in
    let from = cursor_of c.args.cursor.now in
    let st = cursor_of c.searches.cursor in
    let at = sym (subst (λ t. true ≡ is_place t st.pos) c.as_bytes.ensures.value c.searches-test.ensures) in
    let small : length text < usize_max = omega arith in
    let is : IsText text = record { utf8 = c.utf8.text; fits = small } in
    let here = c.options-here.result in
    let form = g.F.FromSearch in
    let found = λ (i : Input) (of : IsCompiledFrom i compiled). subst (λ f. Shows i text (run_options_of here) form.show (form.seen text) (Ok f)) c.in-Some.is
    (c.in_ok-search.ensures.promise i of) in
    let spans = subst (λ f. IfSome f (λ x. (numbers : List ℕ) → form.show x ≡ form.seen text numbers → form.span x ≡ first_pair numbers)) c.in-Some.is
    c.in_ok-search.ensures.spans in
    let to = c.pass.ensures.after ∙ ap (after text st) c.span-start.ensures in
    let tells = ap (is_listed st) (sym c.span-start.ensures) ∙ sym c.if-pass.ensures.listed in
    subst (λ t. (i : Input) → IsCompiledFrom i compiled → StepsBy i text (run_options_of base) form.show (form.seen text) from (Ok (Some c.in-Some.found)) t)
    (sym to)
    (search_listed compiled text is base here from st at c.options-here.ensures c.searches.invariant.goes form.show (form.seen text)
    (Ok (Some c.in-Some.found)) found c.in-Some.found (form.span c.in-Some.found) spans refl tells)

pub returns-then-pass-clause-further : goal.returns-then-pass-clause-further
returns-then-pass-clause-further g c =
    let text = c.args.text.now in
    let st = cursor_of c.searches.cursor in
    let at = sym (subst (λ t. true ≡ is_place t st.pos) c.as_bytes.ensures.value c.searches-test.ensures) in
    let small : length text < usize_max = omega arith in
    let is : IsText text = record { utf8 = c.utf8.text; fits = small } in
    let here = c.options-here.result in
    let span = g.F.FromSearch.span c.in-Some.found in
    let on = subst (λ f. IfSome f (λ x. EndsOn text here.pos (g.F.FromSearch.span x))) c.in-Some.is c.in_ok-search.ensures.on in
    let passed = passed_on c.args.compiled.now text is c.args.options.now here (cursor_of c.args.cursor.now) st at c.options-here.ensures span on
    (cursor_of c.pass.new.self) (c.pass.ensures.after ∙ ap (after text st) c.span-start.ensures) in
    let so_far = c.searches.invariant.goes.on in
    omega (arith, passed.0, passed.1, so_far)

pub searches-smaller : goal.searches-smaller
searches-smaller g c =
    let text = c.args.text.now in
    let st = cursor_of c.searches.cursor in
    let at = sym (subst (λ t. true ≡ is_place t st.pos) c.as_bytes.ensures.value c.searches-test.ensures) in
    let small : length text < usize_max = omega arith in
    let is : IsText text = record { utf8 = c.utf8.text; fits = small } in
    let here = c.options-here.result in
    let span = g.F.FromSearch.span c.in-Some.found in
    let on = subst (λ f. IfSome f (λ x. EndsOn text here.pos (g.F.FromSearch.span x))) c.in-Some.is c.in_ok-search.ensures.on in
    let passed = passed_on c.args.compiled.now text is c.args.options.now here (cursor_of c.args.cursor.now) st at c.options-here.ensures span on
    (cursor_of c.pass.new.self) (c.pass.ensures.after ∙ ap (after text st) c.span-start.ensures) in
    omega (arith, passed.0, passed.1)

pub searches-preserved : goal.searches-preserved
searches-preserved g c =
    let compiled = c.args.compiled.now in
    let text = c.args.text.now in
    let base = c.args.options.now in
    let from = cursor_of c.args.cursor.now in
    let st = cursor_of c.searches.cursor in
    let at = sym (subst (λ t. true ≡ is_place t st.pos) c.as_bytes.ensures.value c.searches-test.ensures) in
    let small : length text < usize_max = omega arith in
    let is : IsText text = record { utf8 = c.utf8.text; fits = small } in
    let here = c.options-here.result in
    let form = g.F.FromSearch in
    let found = λ (i : Input) (of : IsCompiledFrom i compiled). subst (λ f. Shows i text (run_options_of here) form.show (form.seen text) (Ok f)) c.in-Some.is
    (c.in_ok-search.ensures.promise i of) in
    let on = subst (λ f. IfSome f (λ x. EndsOn text here.pos (g.F.FromSearch.span x))) c.in-Some.is c.in_ok-search.ensures.on in
    let further = found_further compiled text is base here from st at c.options-here.ensures (g.F.FromSearch.span c.in-Some.found) on in
    let spans = subst (λ f. IfSome f (λ x. (numbers : List ℕ) → form.show x ≡ form.seen text numbers → form.span x ≡ first_pair numbers)) c.in-Some.is
    c.in_ok-search.ensures.spans in
    let to = c.pass.ensures.after ∙ ap (after text st) c.span-start.ensures in
    let tells = ap (is_listed st) (sym c.span-start.ensures) ∙ sym c.if-pass.ensures.listed in
    record {
      goes = subst (GoesOn compiled text (run_options_of base) from) (sym to)
          (search_past compiled text is base here from st at c.options-here.ensures c.searches.invariant.goes form.show (form.seen text)
          (Ok (Some c.in-Some.found)) found c.in-Some.found (form.span c.in-Some.found) spans refl tells further);
      limits = c.in_ok-search.ensures.limits ∙ c.searches.invariant.limits;
      stays = λ none. c.in_ok-search.ensures.stays;
      suits = c.in_ok-search.ensures.suits;
    }

pub returns-in_err-search-clause-limits : goal.returns-in_err-search-clause-limits
returns-in_err-search-clause-limits g c = c.in_err-search.ensures.limits ∙ c.searches.invariant.limits

pub returns-in_err-search-clause-stays : goal.returns-in_err-search-clause-stays
returns-in_err-search-clause-stays g c none =
    let p = err_from_is_err_and c.from_residual.result c.from_residual.ensures.1 in
    rw (p.1, p.2) c.in_err-search.ensures.stays

pub returns-clause-steps : goal.returns-clause-steps
returns-clause-steps g c =
    let text = c.args.text.now in
    let st = cursor_of c.searches.cursor in
    let small : length text < usize_max = omega arith in
    let is : IsText text = record { utf8 = c.utf8.text; fits = small } in
    let no_place = sym (subst (λ t. false ≡ is_place t st.pos) c.as_bytes.ensures.value c.searches-test.ensures) in
    none_at_end g.F.FromSearch.show (g.F.FromSearch.seen text) c.args.compiled.now text is (run_options_of c.args.options.now)
    (cursor_of c.args.cursor.now) st c.searches.invariant.goes no_place
