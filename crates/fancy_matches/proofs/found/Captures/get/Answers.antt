use Rattle.std.proofs.Common.{◌≡◌, ◌+◌, ◌*◌, slice_index_or, sym, ap, ◌∙◌, arith}
use Rattle.fancy_meaning.specs.Numbers.{usize_max}
use Rattle.fancy_matches.specs.Matchers.{numbers_in}
use Rattle.fancy_matches.proofs.Lists.{group_is}
use Rattle.fancy_matches.proofs.found.Captures.get.Goals as goal

pub invariant_of-result : goal.invariant_of-result
invariant_of-result c =
    let numbers = numbers_in c.args.self.now in
    let at : 2 * c.args.group ≡ c.in_ok-first.first = omega (arith, c.in_ok-first.ensures) in
    let after : 2 * c.args.group + 1 ≡ c.in_ok-first.first + 1 = omega (arith, at) in
    let start = ap (λ i. slice_index_or numbers i usize_max) at ∙ sym c.number-start.ensures in
    let end = ap (λ i. slice_index_or numbers i usize_max) after ∙ sym c.number-end.ensures in
    record {
      in_text = c.args.self.now.groups c.args.group (c.number-start.result, c.number-end.result)
          (group_is numbers c.args.group c.number-start.result c.number-end.result start end c.if-start.false);
    }
