use Rattle.std.proofs.Common.{◌≡◌, ◌<◌, ◌-◌, ◌∷◌, [], Some, option_and_then, true, false, length, take, drop, sym, ap, ◌∙◌, arith, append-nil}
use Rattle.fancy_grep.specs.Globs.{range, ranges}
use Rattle.fancy_grep.proofs.GlobLaws.{after_nothing, after_one_more, more_ranges, nothing_left, put_after, ranges_end, ranges_none, ranges_step, split_first}
use Rattle.fancy_grep.proofs.globs.ranges.Goals as goal

pub loop-left-init : goal.loop-left-init
loop-left-init c =
    let text = c.args.text.now in record {
      most = length text;
      enough = omega arith;
      shorter = omega arith;
      same = ap (λ old. put_after old (ranges (length text) true text)) c.new-ranges.ensures.items ∙ after_nothing (ranges (length text) true text);
    }

pub returns-then-ends_set-clause-ranges : goal.returns-then-ends_set-clause-ranges
returns-then-ends_set-clause-ranges c =
    let inv = c.loop-left.invariant in
    let left = c.loop-left.left.now in
    let old = c.loop-left.ranges.items in
    let rest = take (length left - 1) (drop 1 left) in
    let split : left ≡ c.c-item.result ∷ rest = split_first left c.c-item.result (omega (arith, c.in-len1-up.len_at_least)) c.c-item.is in
    let some : 0 < inv.most = omega (arith, ap length split, inv.enough) in
    let here = ap (ranges inv.most c.loop-left.is_first) split
    ∙ ranges_end inv.most c.loop-left.is_first c.c-item.result rest some (sym c.ends_set.ensures ∙ c.if-ends_set.true) in
    ap (λ rs. Some (rs, rest)) (sym (append-nil old)) ∙ sym (ap (put_after old) here) ∙ inv.same

pub returns-in_default-range-clause-ranges : goal.returns-in_default-range-clause-ranges
returns-in_default-range-clause-ranges c =
    let inv = c.loop-left.invariant in
    let left = c.loop-left.left.now in
    let old = c.loop-left.ranges.items in
    let rest = take (length left - 1) (drop 1 left) in
    let split : left ≡ c.c-item.result ∷ rest = split_first left c.c-item.result (omega (arith, c.in-len1-up.len_at_least)) c.c-item.is in
    let some : 0 < inv.most = omega (arith, ap length split, inv.enough) in
    let here = ap (ranges inv.most c.loop-left.is_first) split
    ∙ ranges_step inv.most c.loop-left.is_first c.c-item.result rest some (sym c.ends_set.ensures ∙ c.if-ends_set.false)
    ∙ ap (option_and_then (more_ranges (inv.most - 1))) (ap range (sym split) ∙ sym c.in_default-range.ensures.range) in
    sym (ap (put_after old) here) ∙ inv.same

pub loop-left-preserved : goal.loop-left-preserved
loop-left-preserved c =
    let inv = c.loop-left.invariant in
    let left = c.loop-left.left.now in
    let old = c.loop-left.ranges.items in
    let rest = take (length left - 1) (drop 1 left) in
    let split : left ≡ c.c-item.result ∷ rest = split_first left c.c-item.result (omega (arith, c.in-len1-up.len_at_least)) c.c-item.is in
    let some : 0 < inv.most = omega (arith, ap length split, inv.enough) in
    let after = ranges (inv.most - 1) false c.in-Some.rest.now in
    let here = ap (ranges inv.most c.loop-left.is_first) split
    ∙ ranges_step inv.most c.loop-left.is_first c.c-item.result rest some (sym c.ends_set.ensures ∙ c.if-ends_set.false)
    ∙ ap (option_and_then (more_ranges (inv.most - 1))) (ap range (sym split) ∙ sym c.in-Some.ensures.range) in record {
      most = inv.most - 1;
      enough = omega (arith, c.in-Some.ensures.shorter, inv.enough);
      shorter = omega (arith, c.in-Some.ensures.shorter, inv.shorter);
      same = ap (λ rs. put_after rs after) c.in_ok-push.ensures.items ∙ after_one_more old c.in-Some.members after ∙ sym (ap (put_after old) here) ∙ inv.same;
    }

pub returns-clause-ranges : goal.returns-clause-ranges
returns-clause-ranges c =
    let inv = c.loop-left.invariant in
    let none : c.loop-left.left.now ≡ [] = nothing_left c.loop-left.left.now c.in_default.len_below in
    sym (ap (put_after c.loop-left.ranges.items) (ap (ranges inv.most c.loop-left.is_first) none ∙ ranges_none inv.most c.loop-left.is_first)) ∙ inv.same
