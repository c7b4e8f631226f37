use Rattle.std.proofs.Common.{◌+◌, sym, ◌∙◌, subst, arith}
use Rattle.fancy_faults.proofs.Described.{IsPast, few_after, past_none, skip_one, here, nowhere}
use Rattle.fancy_faults.proofs.finder.described_at.Goals as goal

pub returns : goal.returns
returns c = nowhere c.args.text.now c.args.first c.args.nodes.now c.loop-at.at c.loop-at.next c.loop-at-test.false c.loop-at.invariant.past

pub returns-then-branch : goal.returns-then-branch
returns-then-branch c =
    here c.args.text.now c.args.first c.args.nodes.now c.loop-at.at c.loop-at.next c.index-nodes-at.result c.loop-at-test.true c.index-nodes-at.is
    c.loop-at.invariant.past (sym c.in_ok-is_described.ensures ∙ c.if-branch.true)

pub loop-at-preserved : goal.loop-at-preserved
loop-at-preserved c =
    let i = c.loop-at.at in
    let b = c.index-nodes-at.result in
    record {
      few = omega (arith, few_after b.now c.loop-at.next, c.next_after-next.ensures, c.loop-at.invariant.few);
      past = subst (IsPast c.args.text.now c.args.first c.args.nodes.now (i + 1)) (sym c.next_after-next.ensures)
          (skip_one c.args.text.now c.args.first c.args.nodes.now i c.loop-at.next b c.loop-at-test.true c.index-nodes-at.is
          c.loop-at.invariant.past (sym c.in_ok-is_described.ensures ∙ c.if-branch.false));
    }

pub loop-at-init : goal.loop-at-init
loop-at-init c = record { few = omega (arith, c.requires); past = past_none c.args.text.now c.args.first c.args.nodes.now }
