use Rattle.fancy_laws.proofs.Continues.{continued_ways}
use Rattle.fancy_laws.proofs.continue_law.Goals as goal

pub returns : goal.returns
returns c = continued_ways
