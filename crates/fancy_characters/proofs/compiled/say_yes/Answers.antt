use Rattle.std.proofs.Common.{arith, ◌∙◌, true, false, length-set, slice_index_or}
use Rattle.fancy_characters.proofs.AsciiLaws.{none_yet, one_more_yes, all_yes}
use Rattle.fancy_characters.proofs.compiled.say_yes.Goals as goal

pub fill-init : goal.fill-init
fill-init c = (λ k h. none_yet (slice_index_or c.args.answers.now k false) c.args.range k, c.told-answers)

pub fill-preserved : goal.fill-preserved
fill-preserved c = (
  λ k h. one_more_yes c.fill.answers (slice_index_or c.args.answers.now k false) c.args.range c.fill.c k (omega (arith, c.fill.invariant.1))
      (omega arith) (omega arith) (c.fill.invariant.0 k h),
  length-set c.fill.answers c.fill.c true ∙ c.fill.invariant.1,
)

pub returns : goal.returns
returns c =
    λ k h. c.fill.invariant.0 k h ∙ all_yes (slice_index_or c.args.answers.now k false) c.args.range c.fill.c k h (omega arith)
