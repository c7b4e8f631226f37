use Rattle.fancy_meaning.specs.OpenCalls.{free_calls}
use Rattle.fancy_meaning.specs.Ways.{called}
use Rattle.fancy_laws.proofs.LookLaws.{behind_has_ways_of_body}
use Rattle.fancy_laws.proofs.behind_has_ways_of_body.Goals as goal

pub returns : goal.returns
returns c = λ q whole e depths s no_alt. behind_has_ways_of_body q (called q whole (free_calls whole depths) depths) e s no_alt
