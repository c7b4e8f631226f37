use Rattle.fancy_laws.proofs.SpansHold.{spans_hold}
use Rattle.fancy_laws.proofs.span_law.Goals as goal

pub returns : goal.returns
returns c = spans_hold
