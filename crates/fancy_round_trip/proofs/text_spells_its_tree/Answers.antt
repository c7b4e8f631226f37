use Rattle.fancy_round_trip.proofs.Whole.{text_spells}
use Rattle.fancy_round_trip.proofs.text_spells_its_tree.Goals as goal

pub returns : goal.returns
returns c = text_spells
