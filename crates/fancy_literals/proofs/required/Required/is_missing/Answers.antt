use Rattle.std.proofs.Common.{◌-◌, List, None, ℕ, drop, length, sym, subst, take}
use Rattle.memchr.specs.Find.{FindsNeedle}
use Rattle.fancy_literals.specs.ByteSets.{HasNone, is_in}
use Rattle.fancy_literals.specs.Required.{LacksFrom, OneOf, Piece, required_of}
use Rattle.fancy_literals.proofs.MissingLaw.{literal_missing, rest_from, set_missing}
use Rattle.fancy_literals.proofs.required.Required.is_missing.Goals as goal

pub returns-in-Literal : goal.returns-in-Literal
returns-in-Literal c = λ is.
    let bytes = c.as_bytes-bytes.result.now in
    let from : ℕ = c.args.from in
    let literal : List ℕ = c.in-Literal.literal.items in
    subst (λ r. LacksFrom (required_of r) c.args.text.now from) (sym c.in-Literal.is)
    (subst (λ text. LacksFrom (Piece literal) text from) c.as_bytes-bytes.ensures.value
    (literal_missing bytes from literal
    (subst (λ rest. FindsNeedle rest literal 0 None) (rest_from bytes from c.min.result c.min.ensures)
    (subst (λ needle. FindsNeedle (take (length bytes - c.min.result) (drop c.min.result bytes)) needle 0 None)
    c.deref.ensures.value (c.lacks_literal.ensures is)))))

pub returns-in-OneOf : goal.returns-in-OneOf
returns-in-OneOf c = λ is.
    let bytes = c.as_bytes-bytes.result.now in
    let from : ℕ = c.args.from in
    let set = c.in-OneOf.set.bytes in
    subst (λ r. LacksFrom (required_of r) c.args.text.now from) (sym c.in-OneOf.is)
    (subst (λ text. LacksFrom (OneOf set) text from) c.as_bytes-bytes.ensures.value
    (set_missing bytes from set
    (subst (HasNone (is_in set)) (rest_from bytes from c.min.result c.min.ensures) (c.is_missing.ensures is))))
