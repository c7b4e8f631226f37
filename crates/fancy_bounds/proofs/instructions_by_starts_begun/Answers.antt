use Rattle.fancy_bounds.proofs.Begun.{instructions_by_starts}
use Rattle.fancy_bounds.proofs.instructions_by_starts_begun.Goals as goal

pub returns : goal.returns
returns c = instructions_by_starts
