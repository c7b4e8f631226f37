use Rattle.std.proofs.Common.{IfSome, string_bytes, sym, ap, subst}
use Rattle.fancy_expr.specs.Views.{tree_of}
use Rattle.fancy_literals.specs.Required.{IsRequiredOf, OneOf, Piece}
use Rattle.fancy_literals.specs.Takes.{Takes}
use Rattle.fancy_literals.specs.TakesByte.{TakesByte}
use Rattle.fancy_literals.proofs.ByteLaw.{byte_is_required}
use Rattle.fancy_literals.proofs.RequiredLaw.{taken_is_required}
use Rattle.fancy_literals.proofs.required.required_by.Goals as goal

pub returns-in-Some : goal.returns-in-Some
returns-in-Some c =
    let e = tree_of c.args.expr.now in
    subst (λ l. IsRequiredOf (Piece l) c.args.behind c.args.unicode e) (sym (ap (λ v. v.items) c.into_bytes.ensures.value))
    (taken_is_required (string_bytes c.in-Some.literal) c.args.behind c.args.unicode e
    (subst (λ o. IfSome o (λ s. Takes c.args.behind (string_bytes s) e)) c.in-Some.is c.in_ok-literal.ensures))

pub returns-in-Some-2 : goal.returns-in-Some-2
returns-in-Some-2 c =
    let e = tree_of c.args.expr.now in
    subst (λ b. IsRequiredOf (OneOf b) c.args.behind c.args.unicode e) (sym c.new.ensures)
    (byte_is_required c.in-Some-2.bytes c.args.behind c.args.unicode e
    (subst (λ o. IfSome o (λ b. TakesByte c.args.unicode c.args.behind b e)) c.in-Some-2.is c.in_ok-bytes.ensures))
