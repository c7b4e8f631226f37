use Rattle.std.proofs.Common.{sym, ap, ◌∙◌, [], slice_index_or, false}
use Rattle.fancy_nfa.proofs.FirstSetLaws.{level_asked, level_at_end, level_lacks, level_passed}
use Rattle.fancy_nfa.proofs.first_sets.may_begin.Goals as goal

pub returns-then-place-text : goal.returns-then-place-text
returns-then-place-text c =
    sym (level_at_end c.args.levels.now c.args.text.now c.levels.level-index c.levels.place c.levels-test.true c.if-place-text.true)
    ∙ c.levels.invariant

pub returns-then-not-level-min : goal.returns-then-not-level-min
returns-then-not-level-min c =
    sym (level_lacks c.args.levels.now c.args.text.now c.levels.level-index c.levels.place c.levels-test.true c.if-place-text.false
    (ap (λ i. slice_index_or (slice_index_or c.args.levels.now c.levels.level-index []) i false) (sym c.min.ensures) ∙ c.if-not-level-min.true))
    ∙ c.levels.invariant

pub returns-then-byte-ge128 : goal.returns-then-byte-ge128
returns-then-byte-ge128 c =
    sym (level_passed c.args.levels.now c.args.text.now c.levels.level-index c.levels.place c.levels-test.true c.if-place-text.false
    c.if-byte-ge128.true (ap (λ i. slice_index_or (slice_index_or c.args.levels.now c.levels.level-index []) i false) (sym c.min.ensures) ∙ c.if-not-level-min.false))
    ∙ c.levels.invariant

pub levels-preserved : goal.levels-preserved
levels-preserved c =
    sym (level_asked c.args.levels.now c.args.text.now c.levels.level-index c.levels.place c.levels-test.true c.if-place-text.false
    c.if-byte-ge128.false (ap (λ i. slice_index_or (slice_index_or c.args.levels.now c.levels.level-index []) i false) (sym c.min.ensures) ∙ c.if-not-level-min.false))
    ∙ c.levels.invariant
