use Rattle.fancy_meaning.specs.OpenCalls.{free_calls}
use Rattle.fancy_meaning.specs.Ways.{called}
use Rattle.fancy_laws.proofs.LookLaws.{behind_goes_by_branches}
use Rattle.fancy_laws.proofs.behind_goes_by_branches.Goals as goal

pub returns : goal.returns
returns c = λ q whole es depths s. behind_goes_by_branches q (called q whole (free_calls whole depths) depths) es s
