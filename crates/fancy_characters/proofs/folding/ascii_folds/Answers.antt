use Rattle.std.proofs.Common.{arith, inl}
use Rattle.fancy_characters.proofs.FoldingLaws.{lower_or_upper, no_letter}
use Rattle.fancy_characters.proofs.folding.ascii_folds.Goals.{else-lower-ge97-via-then-lower-ge97+else-lower-le122, else-lower-ge97-via-else-lower-ge97}
use Rattle.fancy_characters.proofs.folding.ascii_folds.Goals as goal

pub returns-then-lower-le122 : goal.returns-then-lower-le122
returns-then-lower-le122 c = λ d small takes. lower_or_upper c.lower_case-lower.result d (c.lower_case-lower.ensures d small takes)

pub returns : goal.returns
returns c = elim c.else-lower-ge97.branch [
  | else-lower-ge97-via-then-lower-ge97+else-lower-le122 w ↦ λ d small takes.
      inl (no_letter c.lower_case-lower.result d (c.lower_case-lower.ensures d small takes) (λ low high. omega (arith, w.if-lower-le122.false, high)))
  | else-lower-ge97-via-else-lower-ge97 w ↦ λ d small takes.
      inl (no_letter c.lower_case-lower.result d (c.lower_case-lower.ensures d small takes) (λ low high. omega (arith, w.if-lower-ge97.false, low)))
]
