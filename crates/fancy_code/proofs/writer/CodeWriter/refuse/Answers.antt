use Rattle.std.proofs.Common.{inr}
use Rattle.fancy_code.proofs.writer.CodeWriter.refuse.Goals as goal

pub returns : goal.returns
returns c = λ p k es h. c.fail.ensures p k es (inr h)
