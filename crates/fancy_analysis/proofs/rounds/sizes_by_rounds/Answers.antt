use Rattle.std.proofs.Common.{◌≡◌, suc, ◌+◌, map, replicate, false, true, sym, ap, ◌∙◌, subst, arith, add-one}
use Rattle.fancy_meaning.specs.Tree as plain
use Rattle.fancy_meaning.specs.Nodes.{group_count}
use Rattle.fancy_meaning.specs.Numbering.{numbered_within}
use Rattle.fancy_meaning.specs.Sizes.{next_round, after_rounds, unknown}
use Rattle.fancy_expr.specs.Views.{tree_of}
use Rattle.fancy_info.specs.Sized.{size_of}
use Rattle.fancy_expr.proofs.Numbered.{count-numbered}
use Rattle.std.specs.Cmp.Derive.Mapped.{pointwise-map}
use Rattle.fancy_analysis.specs.Rounds.{same_size, same_sizes, size_rounds}
use Rattle.fancy_analysis.proofs.LimitRounds.{Counts, counts_all, counts_first, counts_more, counts_over, counts_same}
use Rattle.fancy_analysis.proofs.RoundSizes.{same_known, settled, last_round}
use Rattle.fancy_analysis.proofs.rounds.sizes_by_rounds.Goals as goal

pub returns-then-eq : goal.returns-then-eq
returns-then-eq c =
    let t = tree_of c.args.tree.now.expr in
    let whole = numbered_within plain.NoLook c.args.first t in
    let i = c.loop-round.round in
    let before : map size_of c.loop-round.known.items ≡ after_rounds whole i = c.loop-round.invariant.known in
    let next = map size_of c.in_ok-next.next.items in
    let is : next ≡ next_round whole (after_rounds whole i) =
    c.in_ok-next.ensures ∙ ap (next_round whole) (ap (map size_of) c.deref.ensures.value ∙ before) in
    let same : same_sizes next (after_rounds whole i) ≡ true =
    ap (same_sizes next) (sym before) ∙ pointwise-map size_of same_size c.in_ok-next.next.items c.loop-round.known.items ∙ sym c.eq.ensures ∙ c.if-eq.true in
    record {
      known = before
          ∙ settled whole i (omega (arith, c.requires.groups, count-numbered plain.NoLook c.args.first t))
          (sym is ∙ same_known next (after_rounds whole i) same);
      count = counts_same same_sizes (next_round whole) (size_rounds whole) i c.args.tree.now.total_groups (after_rounds whole i) next
          c.loop-round-test.true is c.loop-round.invariant.counts same;
      few = c.loop-round.invariant.few;
    }

pub returns-then-round-most : goal.returns-then-round-most
returns-then-round-most c =
    let whole = numbered_within plain.NoLook c.args.first (tree_of c.args.tree.now.expr) in
    let i = c.loop-round.round in
    let before : map size_of c.loop-round.known.items ≡ after_rounds whole i = c.loop-round.invariant.known in
    let next = map size_of c.in_ok-next.next.items in
    let is : next ≡ next_round whole (after_rounds whole i) =
    c.in_ok-next.ensures ∙ ap (next_round whole) (ap (map size_of) c.deref.ensures.value ∙ before) in
    let differ : same_sizes next (after_rounds whole i) ≡ false =
    ap (same_sizes next) (sym before) ∙ pointwise-map size_of same_size c.in_ok-next.next.items c.loop-round.known.items ∙ sym c.eq.ensures ∙ c.if-eq.false in
    let more = counts_over same_sizes (next_round whole) (size_rounds whole) i c.args.tree.now.total_groups (after_rounds whole i) next
    c.loop-round-test.true is c.loop-round.invariant.counts differ in
    omega (arith, more, c.if-round-most.true)

pub loop-round-init : goal.loop-round-init
unfolding size_rounds
loop-round-init c =
    let t = tree_of c.args.tree.now.expr in
    let whole = numbered_within plain.NoLook c.args.first t in
    let groups : group_count whole ≡ c.args.tree.now.total_groups = omega (arith, c.requires.groups, count-numbered plain.NoLook c.args.first t) in
    let counted : c.args.tree.now.total_groups + 1 ≡ suc (group_count whole) = omega arith in
    record {
      known = c.in_ok-known.ensures ∙ ap (λ n. replicate n unknown) counted;
      counts = subst (Counts same_sizes (next_round whole) (size_rounds whole) (after_rounds whole 0) 0) groups
          (counts_first same_sizes (next_round whole) (after_rounds whole 0) (group_count whole));
      few = omega arith;
    }

pub loop-round-preserved : goal.loop-round-preserved
loop-round-preserved c =
    let whole = numbered_within plain.NoLook c.args.first (tree_of c.args.tree.now.expr) in
    let i = c.loop-round.round in
    let before : map size_of c.loop-round.known.items ≡ after_rounds whole i = c.loop-round.invariant.known in
    let next = map size_of c.in_ok-next.next.items in
    let up : after_rounds whole (i + 1) ≡ next_round whole (after_rounds whole i) = ap (after_rounds whole) (add-one i) in
    let is : next ≡ after_rounds whole (i + 1) =
    c.in_ok-next.ensures ∙ ap (next_round whole) (ap (map size_of) c.deref.ensures.value ∙ before) ∙ sym up in
    let differ : same_sizes (after_rounds whole (i + 1)) (after_rounds whole i) ≡ false =
    ap (λ l. same_sizes l (after_rounds whole i)) (sym is) ∙ ap (same_sizes (map size_of c.in_ok-next.next.items)) (sym before)
    ∙ pointwise-map size_of same_size c.in_ok-next.next.items c.loop-round.known.items ∙ sym c.eq.ensures ∙ c.if-eq.false in
    record {
      known = is;
      counts = counts_more same_sizes (next_round whole) (size_rounds whole) i c.args.tree.now.total_groups (after_rounds whole i) (after_rounds whole (i + 1))
          c.loop-round-test.true up c.loop-round.invariant.counts differ;
      few = omega arith;
    }

pub returns : goal.returns
returns c =
    let t = tree_of c.args.tree.now.expr in
    let whole = numbered_within plain.NoLook c.args.first t in
    let i = c.loop-round.round in
    let all : i ≡ c.args.tree.now.total_groups = omega arith in
    let count = counts_all same_sizes (next_round whole) (size_rounds whole) i c.args.tree.now.total_groups (after_rounds whole i) all c.loop-round.invariant.counts in
    record {
      known = c.loop-round.invariant.known ∙ last_round whole i (omega (arith, c.requires.groups, count-numbered plain.NoLook c.args.first t));
      count = omega arith;
      few = omega (arith, c.loop-round.invariant.few);
    }
