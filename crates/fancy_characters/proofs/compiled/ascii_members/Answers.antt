use Rattle.std.proofs.Common.{◌||◌, false, arith, ap, sym, ◌∙◌}
use Rattle.std.proofs.lemmas.List.{get_or-replicate}
use Rattle.regex_class.specs.Ranges.{in_range, in_ranges, range_at, rises_from}
use Rattle.regex_class.proofs.RangesLemmas.{in_ranges-nil, in_ranges-more}
use Rattle.fancy_characters.proofs.AsciiLaws.{none_later}
use Rattle.fancy_characters.proofs.compiled.ascii_members.Goals as goal

pub list-init : goal.list-init
list-init c = λ k h. get_or-replicate 128 k false false h ∙ sym (in_ranges-nil k)

pub list-preserved : goal.list-preserved
list-preserved c =
    let rs = c.deref-range-items.result.now in
    λ k h. c.say_yes.ensures k h ∙ ap (λ b. b || in_range (range_at rs c.list.range-index) k) (c.list.invariant k h)
    ∙ sym (in_ranges-more rs c.list.range-index k c.list-test.true)

pub returns-then-range-ge128 : goal.returns-then-range-ge128
returns-then-range-ge128 c =
    let rs = c.deref-range-items.result.now in
    let rises = ap (rises_from 0) c.deref-range-items.ensures.value ∙ c.args.members.now.canonical in
    λ k h. c.list.invariant k h ∙ none_later rs c.list.range-index k rises c.list-test.true (omega (arith, c.if-range-ge128.true))
    ∙ ap (λ l. in_ranges l k) c.deref-range-items.ensures.value
