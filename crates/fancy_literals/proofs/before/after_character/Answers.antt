use Rattle.std.proofs.Common.{IfSome, subst}
use Rattle.fancy_expr.specs.Views.{tree_of}
use Rattle.fancy_literals.specs.Characters.{AreCharacters}
use Rattle.fancy_literals.proofs.EndLaws.{character_before}
use Rattle.fancy_literals.proofs.before.after_character.Goals as goal

pub returns-in-Some : goal.returns-in-Some
returns-in-Some c =
    let e = tree_of c.args.expr.now in
    character_before c.args.unicode c.in-Some.characters e
    (subst (λ o. IfSome o (λ bytes. AreCharacters c.args.unicode bytes e)) c.in-Some.is c.in_ok-characters.ensures)
