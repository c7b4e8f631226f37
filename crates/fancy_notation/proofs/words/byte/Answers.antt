use Rattle.std.proofs.Common.{sym, ◌∙◌, leb, le-leb}
use Rattle.fancy_notation.specs.Words.{byte_of}
use Rattle.fancy_notation.proofs.WordFacts.{kept-true, kept-false, kept-none, leb-low}
use Rattle.fancy_notation.proofs.words.byte.Goals as goal

pub returns-in-Some : goal.returns-in-Some
unfolding byte_of
returns-in-Some c = kept-true (λ n. leb n 255) _ _ (sym c.number.ensures ∙ c.in-Some.is) (le-leb _ _ c.if-n-le255.true)

pub returns-in_default : goal.returns-in_default
unfolding byte_of
returns-in_default c = kept-false (λ n. leb n 255) _ _ (sym c.number.ensures ∙ c.in-Some.is) (leb-low _ _ c.if-n-le255.false)

pub returns-in_default-2 : goal.returns-in_default-2
unfolding byte_of
returns-in_default-2 c = kept-none (λ n. leb n 255) _ (sym c.number.ensures ∙ c.in_default.is)
