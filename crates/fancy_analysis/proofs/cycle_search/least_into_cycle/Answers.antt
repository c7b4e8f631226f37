use Rattle.std.proofs.Common.{◌≡◌, true, false, sym, ap, ◌∙◌, arith}
use Rattle.fancy_expr.proofs.Listed.{true_false}
use Rattle.fancy_analysis.specs.Reached.{flag}
use Rattle.fancy_analysis.proofs.SearchSteps.{least_found, none_further, none_reached}
use Rattle.fancy_analysis.proofs.cycle_search.least_into_cycle.Goals as goal

pub loop-number-preserved-then-not-is_set : goal.loop-number-preserved-then-not-is_set
loop-number-preserved-then-not-is_set c =
    let flags = c.in_ok-reached.reached.items in
    let n = c.loop-number.number in
    let at : flag flags n ≡ false =
    ap (λ l. flag l n) (sym c.deref.ensures.value) ∙ sym c.is_set.ensures ∙ c.if-not-is_set.true in
    record {
      searching = c.loop-number.invariant.searching;
      idle = c.loop-number.invariant.idle;
      none = none_further c.args.links.now flags n c.loop-number.invariant.none (λ is. absurd (true_false (sym is ∙ at)));
    }

pub loop-number-preserved : goal.loop-number-preserved
loop-number-preserved c =
    let t = c.in_ok-finds_cycle.ensures in
    record {
      searching = t.searching c.if-branch.false;
      idle = t.idle c.if-branch.false;
      none = none_further c.args.links.now c.in_ok-reached.reached.items c.loop-number.number c.loop-number.invariant.none (λ is. t.none c.if-branch.false);
    }

pub returns-then-branch : goal.returns-then-branch
returns-then-branch c =
    let flags = c.in_ok-reached.reached.items in
    let n = c.loop-number.number in
    let at : flag flags n ≡ true =
    ap (λ l. flag l n) (sym c.deref.ensures.value) ∙ sym c.is_set.ensures ∙ c.if-not-is_set.false in
    least_found c.args.links.now flags n c.in_ok-reached.ensures at (c.in_ok-finds_cycle.ensures.cycle c.if-branch.true) c.loop-number.invariant.none

pub returns : goal.returns
returns c = none_reached c.args.links.now c.in_ok-reached.reached.items c.loop-number.number c.in_ok-reached.ensures
    (omega (arith, c.loop-number-test.false, c.len-number-end.ensures, c.in_ok-reached.reached.ok.0)) c.loop-number.invariant.none
