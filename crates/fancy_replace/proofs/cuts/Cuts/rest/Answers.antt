use Rattle.fancy_laws.proofs.Characters.{cut_of_place}
use Rattle.fancy_replace.proofs.cuts.Cuts.rest.Goals as goal

pub range_from-requires : goal.range_from-requires
range_from-requires c = λ _. cut_of_place c.args.self.text.now c.args.self.from c.requires
