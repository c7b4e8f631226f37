use Rattle.fancy_backtrack.specs.PairKeys.{key_of}
use Rattle.fancy_backtrack.proofs.memo.Memo.clear.Goals as goal

pub returns-clause-failed : goal.returns-clause-failed
returns-clause-failed c = λ p. c.clear.ensures (key_of p)
