use Rattle.std.proofs.Common.{sym, ◌∙◌, ◌-◌, ◌^◌, ltb, lt-ltb, le-ltb}
use Rattle.fancy_notation.specs.Words.{count_of}
use Rattle.fancy_notation.proofs.WordFacts.{kept-true, kept-false, kept-none}
use Rattle.fancy_notation.proofs.words.count.Goals as goal

pub returns-in-Some : goal.returns-in-Some
unfolding count_of
returns-in-Some c = kept-true (λ n. ltb n (2 ^ 64 - 1)) _ _ (sym c.number.ensures ∙ c.in-Some.is) (lt-ltb _ _ c.if-n-lt18446744073709551615.true)

pub returns-in_default : goal.returns-in_default
unfolding count_of
returns-in_default c = kept-false (λ n. ltb n (2 ^ 64 - 1)) _ _ (sym c.number.ensures ∙ c.in-Some.is) (le-ltb _ _ c.if-n-lt18446744073709551615.false)

pub returns-in_default-2 : goal.returns-in_default-2
unfolding count_of
returns-in_default-2 c = kept-none (λ n. ltb n (2 ^ 64 - 1)) _ (sym c.number.ensures ∙ c.in_default.is)
