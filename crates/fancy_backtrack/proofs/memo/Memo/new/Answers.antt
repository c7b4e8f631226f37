use Rattle.fancy_backtrack.specs.PairKeys.{key_of}
use Rattle.fancy_backtrack.proofs.memo.Memo.new.Goals as goal

pub returns-clause-failed : goal.returns-clause-failed
returns-clause-failed c = λ p. c.new.ensures (key_of p)
