use Rattle.std.proofs.Common.{◌≡◌, ◌<◌, ◌++◌, ℕ, List, [], true, false, not, Ok, Some, length, inl, inr, refl, sym, ap, ◌∙◌, subst, arith}
use Rattle.std.proofs.lemmas.Result.{err_from_is_err_and}
use Rattle.fancy_matches.specs.Matchers.{captures_text, numbers_in}
use Rattle.fancy_matches.proofs.Stepping.{same_twice}
use Rattle.fancy_replace.specs.Outputs.{Grows}
use Rattle.fancy_replace.specs.Pieces.{as_limit}
use Rattle.fancy_replace.specs.Steps.{HasAllCuts}
use Rattle.fancy_replace.proofs.Growing.{grows_none, grows_on}
use Rattle.fancy_replace.proofs.Replacing.{GoesOn, at_first, goes_on, last_stays, new_text, next_easy, next_fails, next_stays, none_replaced, some_replaced}
use Rattle.fancy_replace.proofs.replace.replace_into.Goals as goal

pub matches-init : goal.matches-init
matches-init g c =
    let text = c.args.text.now in (
      [],
      (
        grows_none g.O.Output.holds c.args.out.now,
        (
          λ _. refl,
          at_first c.args.matcher.now text c.args.limit (g.R.Replacer.replacement_text c.args.replacement.now text) c.new-cuts.result []
              (subst (λ limit. HasAllCuts text limit c.new-cuts.result) c.limit_of.ensures c.new-cuts.ensures) refl,
        ),
      ),
    )

pub returns-in_err-cut : goal.returns-in_err-cut
returns-in_err-cut g c =
    let l = c.matches in
    let goes = l.invariant.1.1.1 in
    let write = g.R.Replacer.replacement_text c.args.replacement.now in
    let p = err_from_is_err_and c.from_residual.result c.from_residual.ensures.1 in
    rw (p.1, p.2) (record {
      promise = λ i o h.
          inl (next_fails c.args.matcher.now l.matcher c.next.new.matcher c.args.text.now (as_limit c.args.limit) write l.cuts c.next.new.self
          l.invariant.0 (not l.is_replaced) goes c.next.result c.next.ensures.next _ c.in_err-cut.was i o h);
      easy =
          next_easy c.args.matcher.now l.matcher c.next.new.matcher c.args.text.now (as_limit c.args.limit) write l.cuts c.next.new.self
          l.invariant.0 (not l.is_replaced) goes c.next.result c.next.ensures.next _ c.in_err-cut.was;
      same = same_twice c.args.matcher.now l.matcher c.next.new.matcher goes.same c.next.ensures.next.same;
      stays =
          next_stays c.args.matcher.now l.matcher c.next.new.matcher c.args.text.now (as_limit c.args.limit) write l.cuts c.next.new.self
          l.invariant.0 (not l.is_replaced) goes c.next.result c.next.ensures.next _ c.in_err-cut.was;
    })

pub matches-preserved : goal.matches-preserved
matches-preserved g c =
    let l = c.matches in
    let more = l.invariant.0 in
    let write = g.R.Replacer.replacement_text c.args.replacement.now in
    let cut = c.in-Some.cut in
    let next = cut.piece.now ++ write (captures_text cut.captures) (numbers_in cut.captures) in (
      more ++ next,
      (
        grows_on g.O.Output.holds c.args.out.now l.out c.append.new.out more next l.invariant.1.0 c.in_ok-append.ensures,
        (
          λ no. cc,
          goes_on c.args.matcher.now l.matcher c.next.new.matcher c.args.text.now (as_limit c.args.limit) write l.cuts c.next.new.self more
              (not l.is_replaced) l.invariant.1.1.1 c.next.result c.next.ensures.next cut (c.in_ok-cut.was ∙ ap Ok c.in-Some.is)
              c.next.ensures.ahead (more ++ next) refl,
        ),
      ),
    )

pub returns-then-not-is_replaced : goal.returns-then-not-is_replaced
returns-then-not-is_replaced g c =
    let l = c.matches in
    let more = l.invariant.0 in
    let goes = l.invariant.1.1.1 in
    let write = g.R.Replacer.replacement_text c.args.replacement.now in
    let none = c.if-not-is_replaced.true in
    record {
      promise = λ i o h. (
        none_replaced c.args.matcher.now l.matcher c.next.new.matcher c.args.text.now (as_limit c.args.limit) write l.cuts c.next.new.self more
            (not l.is_replaced) goes c.next.result c.next.ensures.next (c.in_ok-cut.was ∙ ap Ok c.in_default.is) i o h (ap not none),
        subst (λ x. Grows g.O.Output.holds c.args.out.now x l.out) (l.invariant.1.1.0 none) l.invariant.1.0,
      );
      easy = tt;
      same = same_twice c.args.matcher.now l.matcher c.next.new.matcher goes.same c.next.ensures.next.same;
      stays =
          last_stays c.args.matcher.now l.matcher c.next.new.matcher c.args.text.now (as_limit c.args.limit) write l.cuts c.next.new.self more
          (not l.is_replaced) goes c.next.result c.next.ensures.next (c.in_ok-cut.was ∙ ap Ok c.in_default.is);
    }

pub returns : goal.returns
returns g c =
    let l = c.matches in
    let more = l.invariant.0 in
    let goes = l.invariant.1.1.1 in
    let text = c.args.text.now in
    let limit = as_limit c.args.limit in
    let write = g.R.Replacer.replacement_text c.args.replacement.now in
    let was = c.in_ok-cut.was ∙ ap Ok c.in_default.is in
    let some = c.if-not-is_replaced.false in
    let rest = c.rest.result.now in
    let out = c.args.out.now in
    let new = c.append-2.new.self in
    record {
      promise = λ i o h. (
        some_replaced c.args.matcher.now l.matcher c.next.new.matcher text limit write l.cuts c.next.new.self more (not l.is_replaced) goes
            c.next.result c.next.ensures.next was i o h (ap not some),
        subst (λ x. Grows g.O.Output.holds out x new)
            (new_text c.args.matcher.now l.matcher c.next.new.matcher text limit write l.cuts c.next.new.self more (not l.is_replaced) goes
            c.next.result c.next.ensures.next was i o h (more ++ rest) rest refl c.rest.ensures)
            (grows_on g.O.Output.holds out l.out new more rest l.invariant.1.0 c.in_ok-append-2.ensures),
      );
      easy = tt;
      same = same_twice c.args.matcher.now l.matcher c.next.new.matcher goes.same c.next.ensures.next.same;
      stays =
          last_stays c.args.matcher.now l.matcher c.next.new.matcher text limit write l.cuts c.next.new.self more (not l.is_replaced) goes
          c.next.result c.next.ensures.next was;
    }
