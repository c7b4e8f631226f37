use Rattle.fancy_meaning.specs.Machine.{class_test}
use Rattle.fancy_characters.specs.Classes.{class_of}
use Rattle.fancy_literals.proofs.CharacterLaws.{all_told, none_told, one_told}
use Rattle.fancy_literals.proofs.characters.class_characters.Goals as goal

pub ascii-init : goal.ascii-init
ascii-init c = none_told (class_test (class_of c.args.class.now)) c.takes_others-others.result

pub ascii-preserved : goal.ascii-preserved
ascii-preserved c =
    one_told c.ascii.byte c.ascii.bytes (class_test (class_of c.args.class.now)) c.takes_others-others.result c.takes_ascii.result c.ascii-test.true
    c.takes_ascii.ensures c.ascii.invariant

pub returns : goal.returns
returns c =
    all_told c.ascii.byte c.ascii.bytes (class_test (class_of c.args.class.now)) c.takes_others-others.result c.ascii-test.false c.ascii.invariant
    c.takes_others-others.ensures
