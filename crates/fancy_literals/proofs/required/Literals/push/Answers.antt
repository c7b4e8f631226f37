use Rattle.fancy_literals.proofs.TakenLaws.{pushed}
use Rattle.fancy_literals.proofs.required.Literals.push.Goals as goal

pub returns : goal.returns
returns c = λ behind es read.
    pushed behind c.args.self.now.longest c.args.self.now.row es read c.push.result c.args.character c.push.new.self c.push.ensures.bytes
