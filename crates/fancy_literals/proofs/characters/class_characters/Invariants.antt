use Rattle.fancy_meaning.specs.Machine.{class_test}
use Rattle.fancy_characters.specs.Classes.{class_of}
use Rattle.fancy_literals.proofs.CharacterLaws.{ToldTo}
use Rattle.fancy_literals.proofs.characters.class_characters.Given as goal

abbrev pub invariant-ascii : goal.invariant-ascii
invariant-ascii l = ToldTo l.byte l.bytes (class_test (class_of l.fn.class)) l.others
