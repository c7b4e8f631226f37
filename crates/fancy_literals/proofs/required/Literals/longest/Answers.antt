use Rattle.fancy_literals.proofs.TakenLaws.{longer_taken}
use Rattle.fancy_literals.proofs.required.Literals.longest.Goals as goal

pub returns : goal.returns
returns c = λ behind es read. longer_taken behind c.args.self.longest c.args.self.row es read c.longer.result c.longer.ensures
