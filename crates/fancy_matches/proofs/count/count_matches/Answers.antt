use Rattle.std.proofs.Common.{◌<◌, ◌+◌, length, IfErr, IfSome, Some, refl, ap, ◌∙◌, subst, arith}
use Rattle.std.proofs.lemmas.Result.{err_from_is_err_and}
use Rattle.fancy_meaning.specs.Numbers.{usize_max}
use Rattle.fancy_matches.specs.Matchers.{IsNoLimitWhereEasy, matches_iteration}
use Rattle.fancy_matches.proofs.Counting.{all_counted, count_easy, count_fails, fits, goes_on, none_counted}
use Rattle.fancy_matches.proofs.count.count_matches.Goals as goal

pub matches-init : goal.matches-init
matches-init c =
    let begins = c.find_iter-matches.ensures.begins in (
      none_counted c.args.matcher.now c.args.text.now (matches_iteration c.find_iter-matches.result) begins.matcher begins.within begins.first,
      refl,
    )

pub returns-in_err-found-clause-count : goal.returns-in_err-found-clause-count
returns-in_err-found-clause-count c i o h =
    let text = c.args.text.now in
    let small : length text < usize_max = omega arith in
    let p = err_from_is_err_and c.from_residual.result c.from_residual.ensures.1 in
    rw (p.1, p.2)
    (count_fails c.args.matcher.now text (record { utf8 = c.utf8.text; fits = small }) c.matches.count (matches_iteration c.matches.matches)
    (matches_iteration c.next.new.self) c.matches.invariant.0 c.next.result c.next.ensures.steps.gives c.in_err-found.field-0.0
    (c.in-Some.is ∙ ap Some c.in_err-found.was) i o h)

pub returns-in_err-found-clause-easy : goal.returns-in_err-found-clause-easy
returns-in_err-found-clause-easy c =
    let text = c.args.text.now in
    let small : length text < usize_max = omega arith in
    let p = err_from_is_err_and c.from_residual.result c.from_residual.ensures.1 in
    rw (p.1, p.2)
    (count_easy c.args.matcher.now text (record { utf8 = c.utf8.text; fits = small }) c.matches.count (matches_iteration c.matches.matches)
    (matches_iteration c.next.new.self) c.matches.invariant.0 c.next.result c.next.ensures.steps.gives c.in_err-found.field-0.0
    (subst (λ x. IfSome x (λ y. IfErr y (IsNoLimitWhereEasy c.matches.matches.matcher.now c.matches.matches.text.now)))
    (c.in-Some.is ∙ ap Some c.in_err-found.was) c.next.ensures.steps.easy))

pub overflow_add-count : goal.overflow_add-count
overflow_add-count c =
    let text = c.args.text.now in
    let small : length text < usize_max = omega arith in
    let most = fits c.args.matcher.now text (record { utf8 = c.utf8.text; fits = small }) c.matches.count (matches_iteration c.matches.matches)
    (matches_iteration c.next.new.self) c.matches.invariant.0 c.next.result c.next.ensures.steps.gives c.in_ok-found.field-0
    (c.in-Some.is ∙ ap Some c.in_ok-found.was) in
    omega (arith, most)

pub matches-preserved : goal.matches-preserved
matches-preserved c =
    let text = c.args.text.now in
    let small : length text < usize_max = omega arith in
    let next = c.next.ensures.steps in (
      goes_on c.args.matcher.now text (record { utf8 = c.utf8.text; fits = small }) c.matches.count (matches_iteration c.matches.matches)
          (matches_iteration c.next.new.self) c.matches.invariant.0 c.next.result next.gives c.in_ok-found.field-0
          (c.in-Some.is ∙ ap Some c.in_ok-found.was) (c.matches.count + 1) (omega arith) next.within next.matcher.same,
      next.matcher.name ∙ c.matches.invariant.1,
    )

pub returns-clause-count : goal.returns-clause-count
returns-clause-count c i o h =
    let text = c.args.text.now in
    let small : length text < usize_max = omega arith in
    all_counted c.args.matcher.now text (record { utf8 = c.utf8.text; fits = small }) c.matches.count (matches_iteration c.matches.matches)
    (matches_iteration c.next.new.self) c.matches.invariant.0 c.next.result c.next.ensures.steps.gives c.in_default.is i o h
