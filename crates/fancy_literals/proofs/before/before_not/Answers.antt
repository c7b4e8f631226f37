use Rattle.std.proofs.Common.{IfSome, subst}
use Rattle.fancy_expr.specs.Views.{tree_of}
use Rattle.fancy_literals.specs.Characters.{AreCharacters}
use Rattle.fancy_literals.proofs.EndLaws.{not_before}
use Rattle.fancy_literals.proofs.before.before_not.Goals as goal

pub returns-in-Some : goal.returns-in-Some
returns-in-Some c at_end =
    let e = tree_of c.args.body.now in
    not_before c.args.unicode at_end c.none_of.result c.in-Some.characters c.none_of.ensures.bytes c.none_of.ensures.at_start e
    (subst (λ o. IfSome o (λ bytes. AreCharacters c.args.unicode bytes e)) c.in-Some.is c.in_ok-characters.ensures)
