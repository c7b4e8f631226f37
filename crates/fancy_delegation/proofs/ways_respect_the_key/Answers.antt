use Rattle.fancy_delegation.proofs.Respect.{ways_respect_the_key}
use Rattle.fancy_delegation.proofs.ways_respect_the_key.Goals as goal

pub returns : goal.returns
returns c = ways_respect_the_key
