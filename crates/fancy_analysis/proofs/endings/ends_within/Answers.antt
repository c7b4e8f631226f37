use Rattle.std.proofs.Common.{◌≡◌, ◌≤◌, ◌<◌, true, false, length, replicate, slice_index_or, arith, ap, ◌∙◌, sym, subst}
use Rattle.std.specs.Bool.{beq}
use Rattle.std.specs.Cmp.{booleans_Decides}
use Rattle.std.specs.Cmp.Lexicographic.{pointwise}
use Rattle.std.proofs.lemmas.Slice.Eq.{slice_eq-Decides}
use Rattle.std.proofs.lemmas.List.{get_or_default, length-replicate}
use Rattle.fancy_meaning.specs.Tree.{Tree}
use Rattle.fancy_analysis.specs.Endings.{IsRootOf, ending_rounds, flag_count, next_ends}
use Rattle.fancy_expr.proofs.Listed.{false_true, true_false}
use Rattle.fancy_analysis.proofs.EndingRules.{NextFlags, has_flags, grows_next, sound_next, sound_first, first_complete, count_grows, same_flags, set_count, all_set, no_flag, next_is, next_of_root}
use Rattle.fancy_analysis.proofs.LimitRounds.{Counts, counts_all, counts_first, counts_more, counts_over, counts_same}
use Rattle.fancy_analysis.proofs.endings.ends_within.Goals as goal

pub returns-then-eq : goal.returns-then-eq
returns-then-eq c =
    let root = c.args.root.now in
    let n = flag_count root in
    let flags = c.loop-round.flags.items in
    let next = c.in_ok-next.next.items in
    let held : c.deref.result.now ≡ flags = c.deref.ensures.value in
    let long : length next ≡ length flags = c.in_ok-next.ensures.length ∙ ap length held in
    let some : 0 < length flags = omega (arith, c.loop-round.invariant.long) in
    let first : c.index.result.now ≡ slice_index_or flags 0 false = c.index.ensures ∙ get_or_default flags 0 c.index.result.now false some in
    let same : next ≡ flags = (slice_eq-Decides booleans_Decides next flags _ c.eq.ensures).0 c.if-eq.true in
    let lt : c.loop-round.round < n = omega (arith, c.loop-round-test.true, c.max-count.ensures) in
    let is_next : (whole : Tree) (w : IsRootOf whole root) → NextFlags whole flags next =
    λ whole w. next_of_root whole root w flags c.deref.result.now next (c.in_ok-next.ensures.flags _ w.sized) held in
    record {
      ends = λ whole w.
          let is = is_next whole w in
          let has = has_flags whole root w flags c.loop-round.invariant.long in
          let sound = c.loop-round.invariant.sound whole w in (
            λ set. sound_first whole flags sound (sym first ∙ set),
            λ ends. first ∙ first_complete whole w.first flags next has sound is same ends,
          );
      rounds = λ whole w.
          let total = counts_same (pointwise beq) (next_ends whole) (ending_rounds whole n) c.loop-round.round n flags next lt
          (next_is whole flags next long (is_next whole w)) (c.loop-round.invariant.counts whole w)
          (sym c.eq.ensures ∙ c.if-eq.true) in
          omega (arith, total, c.loop-round.invariant.few);
    }

pub returns-then-round-most : goal.returns-then-round-most
returns-then-round-most c =
    let root = c.args.root.now in
    let n = flag_count root in
    let flags = c.loop-round.flags.items in
    let next = c.in_ok-next.next.items in
    let held : c.deref.result.now ≡ flags = c.deref.ensures.value in
    let long : length next ≡ length flags = c.in_ok-next.ensures.length ∙ ap length held in
    let lt : c.loop-round.round < n = omega (arith, c.loop-round-test.true, c.max-count.ensures) in
    record {
      ends = λ whole w. tt;
      rounds = λ whole w.
          let is = next_of_root whole root w flags c.deref.result.now next (c.in_ok-next.ensures.flags _ w.sized) held in
          let more = counts_over (pointwise beq) (next_ends whole) (ending_rounds whole n) c.loop-round.round n flags next lt
          (next_is whole flags next long is) (c.loop-round.invariant.counts whole w) (sym c.eq.ensures ∙ c.if-eq.false) in
          omega (arith, more, c.if-round-most.true);
    }

pub loop-round-init : goal.loop-round-init
unfolding ending_rounds
loop-round-init c =
    let n = flag_count c.args.root.now in
    let none : c.in_ok-flags.flags.items ≡ replicate n false = c.in_ok-flags.ensures ∙ ap (λ k. replicate k false) c.max-count.ensures in
    record {
      long = ap length none ∙ length-replicate n false;
      few = omega arith;
      is_set = λ whole w. omega arith;
      sound = λ whole w g set. absurd (false_true (sym (ap (λ l. slice_index_or l g false) none ∙ no_flag n g) ∙ set));
      counts = λ whole w. subst (λ l. Counts (pointwise beq) (next_ends whole) (ending_rounds whole n) l 0 n) (sym none)
          (counts_first (pointwise beq) (next_ends whole) (replicate n false) n);
    }

pub loop-round-preserved : goal.loop-round-preserved
loop-round-preserved c =
    let root = c.args.root.now in
    let n = flag_count root in
    let flags = c.loop-round.flags.items in
    let next = c.in_ok-next.next.items in
    let held : c.deref.result.now ≡ flags = c.deref.ensures.value in
    let long : length next ≡ length flags = c.in_ok-next.ensures.length ∙ ap length held in
    let lt : c.loop-round.round < n = omega (arith, c.loop-round-test.true, c.max-count.ensures) in
    let is_next : (whole : Tree) (w : IsRootOf whole root) → NextFlags whole flags next =
    λ whole w. next_of_root whole root w flags c.deref.result.now next (c.in_ok-next.ensures.flags _ w.sized) held in
    record {
      long = long ∙ c.loop-round.invariant.long;
      few = omega (arith, c.if-round-most.false);
      is_set = λ whole w.
          let grows = grows_next whole flags next (is_next whole w) in
          let differ : set_count next ≡ set_count flags → ⊥ =
          λ e. true_false (sym ((slice_eq-Decides booleans_Decides next flags _ c.eq.ensures).1 (same_flags flags next long grows e)) ∙ c.if-eq.false) in
          omega (arith, count_grows flags next long grows, differ, c.loop-round.invariant.is_set whole w);
      sound = λ whole w.
          sound_next whole w.first flags next (has_flags whole root w flags c.loop-round.invariant.long) (c.loop-round.invariant.sound whole w) (is_next whole w);
      counts = λ whole w.
          counts_more (pointwise beq) (next_ends whole) (ending_rounds whole n) c.loop-round.round n flags next lt
          (next_is whole flags next long (is_next whole w)) (c.loop-round.invariant.counts whole w) (sym c.eq.ensures ∙ c.if-eq.false);
    }

pub returns : goal.returns
returns c =
    let root = c.args.root.now in
    let n = flag_count root in
    let flags = c.loop-round.flags.items in
    let some : 0 < length flags = omega (arith, c.loop-round.invariant.long) in
    let end : c.loop-round.round ≡ n = omega (arith, c.loop-round-test.false, c.loop-round.auto.round-end, c.max-count.ensures) in
    let first : c.index-2.result.now ≡ slice_index_or flags 0 false = c.index-2.ensures ∙ get_or_default flags 0 c.index-2.result.now false some in
    record {
      ends = λ whole w.
          let full : length flags ≤ set_count flags = omega (arith, c.loop-round.invariant.is_set whole w, c.loop-round.invariant.long, end) in
          let set : slice_index_or flags 0 false ≡ true = all_set flags some full in (
            λ _. sound_first whole flags (c.loop-round.invariant.sound whole w) set,
            λ _. first ∙ set,
          );
      rounds = λ whole w.
          let total = counts_all (pointwise beq) (next_ends whole) (ending_rounds whole n) c.loop-round.round n flags end (c.loop-round.invariant.counts whole w) in
          omega (arith, total, c.loop-round.invariant.few);
    }
