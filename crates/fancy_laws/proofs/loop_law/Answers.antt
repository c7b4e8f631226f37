use Rattle.fancy_laws.proofs.EndlessLoops.{loop_goes_on_or_stops}
use Rattle.fancy_laws.proofs.loop_law.Goals as goal

pub returns : goal.returns
returns c = loop_goes_on_or_stops
