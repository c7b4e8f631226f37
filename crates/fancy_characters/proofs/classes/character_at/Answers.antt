use Rattle.std.proofs.Common.{sym, ◌∙◌}
use Rattle.regex_hir.proofs.TextLemmas.{char_at_parts}
use Rattle.fancy_characters.proofs.ClassLaws.{some_character}
use Rattle.fancy_characters.proofs.classes.character_at.Goals as goal

pub returns : goal.returns
returns c =
    let found = sym c.in_ok-char_at.ensures in
    let scalar = (char_at_parts c.args.text.now c.args.ix c.in_ok-char_at.field-0 found).0 in
    some_character c.from_u32.result c.in_ok-char_at.field-0 c.from_u32.ensures.value scalar ∙ sym found
