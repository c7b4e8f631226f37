use Rattle.std.proofs.Common.{◌≡◌, ◌<◌, ◌++◌, ◌∷◌, [], true, false, length, slice_index_or, refl, sym, ap, ◌∙◌, subst, arith, get_or-set_same}
use Rattle.fancy_expr.proofs.Listed.{false_true, true_false}
use Rattle.fancy_analysis.specs.Reached.{IsLast, IsState}
use Rattle.fancy_analysis.proofs.SearchSteps.{anew, entered_first, moved, none_from, undone_inside}
use Rattle.fancy_analysis.proofs.cycle_search.CycleSearch.finds_cycle.Goals as goal

pub returns-then-is_done : goal.returns-then-is_done
returns-then-is_done c = record {
  cycle = λ t. absurd (false_true t);
  none = λ f. c.requires.searching.none c.args.start (sym c.is_done.ensures ∙ c.if-is_done.true);
  searching = λ f. c.requires.searching;
  idle = λ f. c.requires.idle;
}

pub loop-number-init : goal.loop-number-init
loop-number-init c =
    let old = c.args.self.now in
    let start = c.args.start in
    let s = subst (IsState c.args.links.now 0 old.ways.items old.seen.items old.done.items) c.requires.idle c.requires.searching in
    let within : start < length old.seen.items = omega (arith, s.dones, undone_inside old.done.items start (sym c.is_done.ensures ∙ c.if-is_done.false)) in
    record {
      searching = moved c.args.links.now start refl c.set.ensures refl (c.in_ok-push.ensures.items ∙ ap (λ l. l ++ start ∷ []) c.requires.idle)
          (entered_first c.args.links.now start old.ways.items old.seen.items old.done.items s within);
      seen = ap (λ l. slice_index_or l start false) c.set.ensures ∙ get_or-set_same old.seen.items start true false within;
    }

pub loop-number-preserved : goal.loop-number-preserved
loop-number-preserved c =
    let last = subst (λ l. IsLast l c.in-Some.number) c.deref.ensures.value c.in-Some.ensures in
    let s = c.in_ok-step.ensures c.args.links.now c.args.start c.loop-number.invariant.searching last in
    record {
      searching = s.goes_on c.if-branch.false;
      seen = s.seen c.args.start c.loop-number.invariant.seen;
    }

pub loop-number-smaller : goal.loop-number-smaller
loop-number-smaller c =
    let last = subst (λ l. IsLast l c.in-Some.number) c.deref.ensures.value c.in-Some.ensures in
    let s = c.in_ok-step.ensures c.args.links.now c.args.start c.loop-number.invariant.searching last in
    s.less c.if-branch.false

pub returns-then-branch : goal.returns-then-branch
returns-then-branch c =
    let last = subst (λ l. IsLast l c.in-Some.number) c.deref.ensures.value c.in-Some.ensures in
    let s = c.in_ok-step.ensures c.args.links.now c.args.start c.loop-number.invariant.searching last in
    record {
      cycle = λ t. s.cycle c.if-branch.true;
      none = λ f. absurd (true_false f);
      searching = λ f. absurd (true_false f);
      idle = λ f. absurd (true_false f);
    }

pub returns : goal.returns
returns c =
    let now = c.loop-number.self in
    let links = c.args.links.now in
    let idle : now.path.items ≡ [] = sym c.deref.ensures.value ∙ c.in_default.ensures in
    let s = subst (IsState links c.args.start now.ways.items now.seen.items now.done.items) idle c.loop-number.invariant.searching in
    record {
      cycle = λ t. absurd (false_true t);
      none = λ f. none_from links c.args.start now.ways.items now.seen.items now.done.items c.args.start s c.loop-number.invariant.seen;
      searching = λ f. subst (IsState links 0 now.ways.items now.seen.items now.done.items) (sym idle)
          (anew links c.args.start 0 now.ways.items now.seen.items now.done.items s);
      idle = λ f. idle;
    }
