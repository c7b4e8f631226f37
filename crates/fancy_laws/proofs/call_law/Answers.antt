use Rattle.std.proofs.Common.{ap}
use Rattle.fancy_laws.proofs.Calls.{call_has_ways_of_target}
use Rattle.fancy_laws.proofs.call_law.Goals as goal

pub returns : goal.returns
returns c = λ q whole body depths g s e lt. ap (λ w. w s) (call_has_ways_of_target q whole depths g body e lt)
