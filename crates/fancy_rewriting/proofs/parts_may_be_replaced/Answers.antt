use Rattle.std.proofs.Common.{ap}
use Rattle.fancy_meaning.specs.OpenCalls.{free_calls}
use Rattle.fancy_meaning.specs.Ways.{called}
use Rattle.fancy_rewriting.proofs.Replaced.{replaced}
use Rattle.fancy_rewriting.proofs.parts_may_be_replaced.Goals as goal

pub returns : goal.returns
returns c = λ q whole depths d e f h s.
    ap (λ w. w s) (replaced q (called q whole (free_calls whole depths) depths) d e f h)
