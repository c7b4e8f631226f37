use Rattle.std.proofs.Common.{IfSome, subst}
use Rattle.fancy_expr.specs.Views.{tree_of}
use Rattle.fancy_literals.specs.Characters.{AreCharacters}
use Rattle.fancy_literals.proofs.CharacterLaws.{takes_characters}
use Rattle.fancy_literals.proofs.bytes.bytes_of_character.Goals as goal

pub returns-in-Some : goal.returns-in-Some
returns-in-Some c behind =
    let e = tree_of c.args.expr.now in
    takes_characters c.args.unicode behind c.in-Some.bytes e
    (subst (λ o. IfSome o (λ bytes. AreCharacters c.args.unicode bytes e)) c.in-Some.is c.in_ok-bytes.ensures)
