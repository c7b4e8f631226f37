use Rattle.std.proofs.Common.{◌∙◌, not, refl, ap, arith}
use Rattle.fancy_literals.proofs.MissingLaw.{byte_not_found, not_found}
use Rattle.fancy_literals.proofs.required.lacks_literal.Goals as goal

pub returns-then-is_none : goal.returns-then-is_none
returns-then-is_none c = λ is.
    let at = c.index1.ensures in
    let inside = c.in-Some.ensures.pair.first in
    byte_not_found c.args.text.now c.args.literal.now c.index1.result _ (omega (arith, at, inside)) refl
    c.memchr.result c.memchr.ensures (c.is_none.ensures ∙ ap not c.if-is_none.true)

pub returns : goal.returns
returns c = λ is. not_found c.args.text.now c.args.literal.now c.find.result c.find.ensures (c.is_none-2.ensures ∙ ap not is)
