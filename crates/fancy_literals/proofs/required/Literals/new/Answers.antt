use Rattle.fancy_literals.proofs.TakenLaws.{none_read}
use Rattle.fancy_literals.proofs.required.Literals.new.Goals as goal

pub returns : goal.returns
returns c = λ behind. none_read behind c.new.result c.new.ensures.bytes
