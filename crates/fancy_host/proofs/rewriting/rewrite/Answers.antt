use Rattle.std.proofs.Common.{◌≡◌, ◌<◌, ◌≤◌, ◌++◌, true, [], Some, None, Ok, Err, inl, refl, length, slice_range, sym, ap, ◌∙◌, subst, arith}
use Rattle.std.proofs.lemmas.Result.{err_from_is_err_and}
use Rattle.fancy_laws.proofs.Characters.{cut_of_place}
use Rattle.fancy_meaning.specs.Numbers.{usize_max}
use Rattle.fancy_meaning.specs.Places.{is_place}
use Rattle.fancy_meaning.specs.Premises.{IsText}
use Rattle.fancy_search.specs.Scratches.{passed_of}
use Rattle.fancy_steps.specs.Tasks.{options_of as run_options_of}
use Rattle.fancy_matches.specs.Matchers.{captures_text, numbers_in, cursor_of}
use Rattle.fancy_host.proofs.LimitsPassed.{stays_so}
use Rattle.fancy_host.proofs.TextRewritten.{GoesOn, at_first, ends_by_limit, ends_by_none, fails_by, goes_further, next_begins, next_starts_at_place, rest_is}
use Rattle.fancy_host.proofs.rewriting.rewrite.Goals as goal

pub loop-count-init : goal.loop-count-init
loop-count-init g c =
    let text = c.args.text.now in
    let small : length text < usize_max = omega arith in (
      [],
      (
        c.new-out.ensures,
        (
          at_first c.args.compiled.now text (run_options_of c.args.options.now) c.args.limit (g.R.Replacer.replacement_text c.args.replacement.now)
              (record { utf8 = c.utf8.text; fits = small }) [] refl (cursor_of c.first-cursor.result) c.first-cursor.ensures,
          (c.requires.passed, (refl, c.requires.suits)),
        ),
      ),
    )

pub range_from-requires : goal.range_from-requires
range_from-requires g c = λ _. cut_of_place c.args.text.now c.loop-count.from c.loop-count.invariant.1.1.0.place

pub range_from-requires-2 : goal.range_from-requires-2
range_from-requires-2 g c = λ _. cut_of_place c.args.text.now c.loop-count.from c.loop-count.invariant.1.1.0.place

pub range-requires-clause-start_le_end : goal.range-requires-clause-start_le_end
range-requires-clause-start_le_end g c =
    let text = c.args.text.now in
    let l = c.loop-count in
    let small : length text < usize_max = omega arith in
    let is : IsText text = record { utf8 = c.utf8.text; fits = small } in
    subst (λ n. l.from ≤ n) (sym (c.start.ensures ∙ ap (λ p. p.0) c.whole-whole.ensures.span))
    (next_begins c.args.compiled.now text (run_options_of c.args.options.now) c.args.limit (g.R.Replacer.replacement_text c.args.replacement.now) is
    c.requires.source l.count (cursor_of l.cursor) (cursor_of c.next_found.new.cursor) l.from l.invariant.0 l.invariant.1.1.0
    c.next_found.result c.next_found.ensures.steps c.in-Some.captures (c.in_ok-next_found.was ∙ ap Ok c.in-Some.is))

pub range-requires-clause-start_boundary : goal.range-requires-clause-start_boundary
range-requires-clause-start_boundary g c = λ _. cut_of_place c.args.text.now c.loop-count.from c.loop-count.invariant.1.1.0.place

pub range-requires-clause-end_boundary : goal.range-requires-clause-end_boundary
range-requires-clause-end_boundary g c =
    let text = c.args.text.now in
    let l = c.loop-count in
    let small : length text < usize_max = omega arith in
    let is : IsText text = record { utf8 = c.utf8.text; fits = small } in
    cut_of_place text c.start.result
    (subst (λ n. is_place text n ≡ true) (sym (c.start.ensures ∙ ap (λ p. p.0) c.whole-whole.ensures.span))
    (next_starts_at_place c.args.compiled.now text (run_options_of c.args.options.now) c.args.limit
    (g.R.Replacer.replacement_text c.args.replacement.now) is
    c.requires.source l.count (cursor_of l.cursor) (cursor_of c.next_found.new.cursor) l.from l.invariant.0 l.invariant.1.1.0
    c.next_found.result c.next_found.ensures.steps c.in-Some.captures (c.in_ok-next_found.was ∙ ap Ok c.in-Some.is)))

pub returns-in_err-next_found-clause-rewrites : goal.returns-in_err-next_found-clause-rewrites
returns-in_err-next_found-clause-rewrites g c =
    let text = c.args.text.now in
    let l = c.loop-count in
    let small : length text < usize_max = omega arith in
    let is : IsText text = record { utf8 = c.utf8.text; fits = small } in
    let lt : l.count < c.most_of-most.result = omega arith in
    let below = subst (λ k. l.count < k) c.most_of-most.ensures lt in
    let p = err_from_is_err_and c.from_residual.result c.from_residual.ensures.1 in
    rw (p.1, p.2)
    (inl (fails_by c.args.compiled.now text (run_options_of c.args.options.now) c.args.limit (g.R.Replacer.replacement_text c.args.replacement.now) is
    c.requires.source l.count (cursor_of l.cursor) (cursor_of c.next_found.new.cursor) l.from l.invariant.0 l.invariant.1.1.0
    c.next_found.result c.next_found.ensures.steps c.in_err-next_found.field-0.0 c.in_err-next_found.was below))

pub returns-in-None-clause-rewrites : goal.returns-in-None-clause-rewrites
returns-in-None-clause-rewrites g c =
    let text = c.args.text.now in
    let l = c.loop-count in
    let small : length text < usize_max = omega arith in
    let is : IsText text = record { utf8 = c.utf8.text; fits = small } in
    let out = l.invariant.0 in
    let rest = c.range_from.result.now in
    record {
      new = out ++ rest;
      is =
          ends_by_none c.args.compiled.now text (run_options_of c.args.options.now) c.args.limit
          (g.R.Replacer.replacement_text c.args.replacement.now) is
          c.requires.source l.count (cursor_of l.cursor) (cursor_of c.next_found.new.cursor) l.from out l.invariant.1.1.0
          c.next_found.result c.next_found.ensures.steps (c.in_ok-next_found.was ∙ ap Ok c.in-None.is) (out ++ rest) rest refl
          (c.range_from.ensures.value ∙ rest_is text l.from);
      holds = c.in_ok-with_rest-in-None.ensures c.args.room out l.invariant.1.0;
    }

pub loop-count-preserved : goal.loop-count-preserved
loop-count-preserved g c =
    let text = c.args.text.now in
    let l = c.loop-count in
    let small : length text < usize_max = omega arith in
    let is : IsText text = record { utf8 = c.utf8.text; fits = small } in
    let lt : l.count < c.most_of-most.result = omega arith in
    let below = subst (λ k. l.count < k) c.most_of-most.ensures lt in
    let span = c.whole-whole.ensures.span in
    let out = l.invariant.0 in
    let x = c.in-Some.captures in
    let piece = c.range.result.now in
    let more = out ++ (piece ++ g.R.Replacer.replacement_text c.args.replacement.now (captures_text x) (numbers_in x)) in (
      more,
      (
        c.in_ok-append-in-Some.ensures c.args.room out l.invariant.1.0,
        (
          goes_further c.args.compiled.now text (run_options_of c.args.options.now) c.args.limit
              (g.R.Replacer.replacement_text c.args.replacement.now) is
              c.requires.source l.count (cursor_of l.cursor) (cursor_of c.next_found.new.cursor) l.from out l.invariant.1.1.0
              c.next_found.result c.next_found.ensures.steps x (c.in_ok-next_found.was ∙ ap Ok c.in-Some.is) below piece
              more c.end-from.result (c.end-from.ensures ∙ ap (λ p. p.1) span)
              (c.range.ensures.value ∙ ap (λ n. slice_range text l.from n) (c.start.ensures ∙ ap (λ p. p.0) span)) refl,
          (
            stays_so c.next_found.result (Ok (Some x)) (passed_of c.next_found.new.scratch)
                (c.in_ok-next_found.was ∙ ap Ok c.in-Some.is) (c.next_found.ensures.stays l.invariant.1.1.1.0),
            (c.next_found.ensures.limits ∙ l.invariant.1.1.1.1.0, c.next_found.ensures.suits),
          ),
        ),
      ),
    )

pub returns-clause-rewrites : goal.returns-clause-rewrites
returns-clause-rewrites g c =
    let text = c.args.text.now in
    let l = c.loop-count in
    let o = run_options_of c.args.options.now in
    let write = g.R.Replacer.replacement_text c.args.replacement.now in
    let small : length text < usize_max = omega arith in
    let is : IsText text = record { utf8 = c.utf8.text; fits = small } in
    let all : l.count ≡ c.most_of-most.result = omega arith in
    let out = l.invariant.0 in
    let rest = c.range_from-2.result.now in
    record {
      new = out ++ rest;
      is =
          ends_by_limit c.args.compiled.now text o c.args.limit write is (cursor_of l.cursor) l.from out
          (subst (λ k. GoesOn c.args.compiled.now text o c.args.limit write k (cursor_of l.cursor) l.from out)
          (all ∙ c.most_of-most.ensures) l.invariant.1.1.0)
          (out ++ rest) rest refl (c.range_from-2.ensures.value ∙ rest_is text l.from);
      holds = c.in_ok-with_rest.ensures c.args.room out l.invariant.1.0;
    }

pub returns-in_err-next_found-clause-stays : goal.returns-in_err-next_found-clause-stays
returns-in_err-next_found-clause-stays g c =
    let p = err_from_is_err_and c.from_residual.result c.from_residual.ensures.1 in
    rw (p.1, p.2)
    (stays_so c.next_found.result (Err c.in_err-next_found.field-0.0) (passed_of c.next_found.new.scratch) c.in_err-next_found.was
    (c.next_found.ensures.stays c.loop-count.invariant.1.1.1.0))

pub returns-in-None-clause-stays : goal.returns-in-None-clause-stays
returns-in-None-clause-stays g c =
    stays_so c.next_found.result (Ok None) (passed_of c.next_found.new.scratch) (c.in_ok-next_found.was ∙ ap Ok c.in-None.is)
    (c.next_found.ensures.stays c.loop-count.invariant.1.1.1.0)

pub returns-clause-stays : goal.returns-clause-stays
returns-clause-stays g c = c.loop-count.invariant.1.1.1.0

pub returns-clause-suits : goal.returns-clause-suits
returns-clause-suits g c = c.loop-count.invariant.1.1.1.1.1
