use Rattle.std.proofs.Common.{ap}
use Rattle.fancy_meaning.specs.OpenCalls.{free_calls}
use Rattle.fancy_laws.proofs.Calls.{no_way_of_call}
use Rattle.fancy_laws.proofs.refused_call_law.Goals as goal

pub returns : goal.returns
returns c = λ q whole depths g s h. ap (λ w. w s) (no_way_of_call q whole (free_calls whole depths) depths g h)
