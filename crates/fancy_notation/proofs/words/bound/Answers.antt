use Rattle.std.proofs.Common.{sym, ◌∙◌}
use Rattle.fancy_notation.proofs.WordFacts.{bound-star, bound-some, bound-low, bound-none}
use Rattle.fancy_notation.proofs.words.bound.Goals as goal

pub returns-then-eq : goal.returns-then-eq
returns-then-eq c = bound-star c.args.lo c.args.word.now (sym c.eq.ensures ∙ c.if-eq.true)

pub returns-in-Some : goal.returns-in-Some
returns-in-Some c = bound-some c.args.lo c.args.word.now c.in-Some.n (sym c.eq.ensures ∙ c.if-eq.false) (sym c.count.ensures ∙ c.in-Some.is) c.if-lo-n.true

pub returns-in_default : goal.returns-in_default
returns-in_default c = bound-low c.args.lo c.args.word.now c.in-Some.n (sym c.eq.ensures ∙ c.if-eq.false) (sym c.count.ensures ∙ c.in-Some.is) c.if-lo-n.false

pub returns-in_default-2 : goal.returns-in_default-2
returns-in_default-2 c = bound-none c.args.lo c.args.word.now (sym c.eq.ensures ∙ c.if-eq.false) (sym c.count.ensures ∙ c.in_default.is)
