use Rattle.std.proofs.Common.{IfSome, false, refl, slice_set, subst, sym, true, arith}
use Rattle.std.proofs.lemmas.Grind.{get_or-set_at}
use Rattle.fancy_expr.specs.Views.{tree_of}
use Rattle.fancy_literals.specs.Characters.{AreCharacters}
use Rattle.fancy_literals.specs.Opens.{Opens}
use Rattle.fancy_literals.proofs.CharacterLaws.{characters_open, one_opens}
use Rattle.fancy_literals.proofs.firsts.add_characters.Goals as goal

pub returns-in-Some-clause-opens : goal.returns-in-Some-clause-opens
returns-in-Some-clause-opens c =
    let unicode = c.args.unicode in
    let lead = c.lead_byte.result in
    let bytes = slice_set c.args.bytes.now lead true in
    subst (Opens unicode false bytes) (sym c.in-Some.ensures)
    (one_opens unicode bytes c.in-Some.character
    (c.lead_byte.ensures.first bytes
    (get_or-set_at c.args.bytes.now lead lead true false refl (let below = c.lead_byte.ensures.below in let long = c.told-bytes in omega (arith, below, long)))))

pub returns-in-Some-2-clause-opens : goal.returns-in-Some-2-clause-opens
returns-in-Some-2-clause-opens c =
    let unicode = c.args.unicode in
    let e = tree_of c.args.expr.now in
    characters_open unicode c.in-Some-2.characters c.both.result c.both.ensures.second e
    (subst (λ o. IfSome o (λ bytes. AreCharacters unicode bytes e)) c.in-Some-2.is c.in_ok-characters_of.ensures)
