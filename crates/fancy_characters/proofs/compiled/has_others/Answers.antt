use Rattle.std.proofs.Common.{length, take, arith, ap, sym, ◌∙◌}
use Rattle.std.proofs.lemmas.List.{take_all}
use Rattle.regex_class.specs.Ranges.{in_ranges}
use Rattle.regex_class.proofs.RangesLemmas.{in_ranges-nil, in_ranges-more}
use Rattle.fancy_characters.proofs.AsciiLaws.{none_beyond}
use Rattle.fancy_characters.proofs.compiled.has_others.Goals as goal

pub list-init : goal.list-init
list-init c = λ k far. in_ranges-nil k

pub list-preserved : goal.list-preserved
list-preserved c =
    let rs = c.deref-range-items.result.now in
    λ k far. in_ranges-more rs c.list.range-index k c.list-test.true
    ∙ none_beyond rs c.list.range-index k (omega (arith, c.if-range-ge128.false)) far (c.list.invariant k far)

pub returns : goal.returns
returns c = λ none k far.
    let rs = c.deref-range-items.result.now in
    ap (λ l. in_ranges l k) (sym (take_all c.list.range-index rs c.list-test.false ∙ c.deref-range-items.ensures.value))
    ∙ c.list.invariant k far
