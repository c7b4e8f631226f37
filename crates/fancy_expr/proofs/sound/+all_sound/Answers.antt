use Rattle.std.proofs.Common.{false, IsTrue, refl, arith}
use Rattle.fancy_expr.specs.Exprs.{below}
use Rattle.fancy_expr.specs.Sound.{IsSoundNode}
use Rattle.fancy_expr.proofs.Exprs.{child_smaller}
use Rattle.fancy_expr.proofs.Walks.{all_here, all_below, all_more, all_together}
use Rattle.fancy_expr.proofs.sound.+all_sound.Goals as goal

pub all_sound-requires : goal.all_sound-requires
all_sound-requires t c = (omega (arith, child_smaller c.args.expr.now c.part.result.now c.loop-i.i (omega arith) c.part.ensures), tt)

never : IsTrue false → ⊥
never h = cc

pub returns-then-not-is_sound : goal.returns-then-not-is_sound
returns-then-not-is_sound t c = (λ h. absurd (never h), λ all. c.if-not-is_sound.ensures.1 (all_here IsSoundNode _ all))

pub returns-then-not-all_sound : goal.returns-then-not-all_sound
returns-then-not-all_sound t c = (
  λ h. absurd (never h),
  λ all. c.if-not-all_sound.ensures.1 (all_below IsSoundNode c.args.expr.now c.part.result.now c.loop-i.i (omega arith) c.part.ensures all),
)

pub loop-i-preserved : goal.loop-i-preserved
loop-i-preserved t c =
    all_more IsSoundNode (below c.args.expr.now) c.loop-i.i c.part.result.now (omega arith) c.part.ensures c.loop-i.invariant
    (c.if-not-all_sound.ensures.0 refl)

pub returns : goal.returns
returns t c = (λ _. all_together IsSoundNode c.args.expr.now c.loop-i.i (omega arith) (c.if-not-is_sound.ensures.0 refl) c.loop-i.invariant, λ _. refl)
