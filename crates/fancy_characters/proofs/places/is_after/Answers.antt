use Rattle.std.proofs.Common.{refl, arith, ne_eqb}
use Rattle.regex_hir.specs.Text.{byte_before}
use Rattle.fancy_characters.proofs.places.is_after.Goals as goal

pub returns-then-ix-eq0 : goal.returns-then-ix-eq0
unfolding byte_before
returns-then-ix-eq0 c = rw c.if-ix-eq0.true refl

pub returns-else-ix-eq0 : goal.returns-else-ix-eq0
unfolding byte_before
returns-else-ix-eq0 c = rw (ne_eqb c.args.ix 0 (omega (arith, c.if-ix-eq0.false))) c.is_before.ensures
