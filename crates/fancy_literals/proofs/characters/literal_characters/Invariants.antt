use Rattle.fancy_meaning.specs.Chars.{literal_takes}
use Rattle.fancy_literals.proofs.CharacterLaws.{ToldTo}
use Rattle.fancy_literals.proofs.characters.literal_characters.Given as goal

abbrev pub invariant-ascii : goal.invariant-ascii
invariant-ascii l = ToldTo l.byte l.bytes (literal_takes l.fn.unicode l.fn.character l.fn.casei) l.others
