use Rattle.fancy_round_trip.proofs.Whole.{round_trip}
use Rattle.fancy_round_trip.proofs.round_trip.Goals as goal

pub returns : goal.returns
returns c = round_trip
