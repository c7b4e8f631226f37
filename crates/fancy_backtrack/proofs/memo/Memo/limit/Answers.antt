use Rattle.std.proofs.Common.{ap, ◌∙◌}
use Rattle.fancy_backtrack.specs.PairKeys.{key_of}
use Rattle.fancy_backtrack.specs.FailedPairs.{has_pair}
use Rattle.fancy_backtrack.specs.declared.failed.Failed.{Failed}
use Rattle.fancy_backtrack.proofs.FailedLaws.{same_pairs}
use Rattle.fancy_backtrack.proofs.memo.Memo.limit.Goals as goal

pub returns-clause-failed : goal.returns-clause-failed
returns-clause-failed c failed have p =
    ap (λ (f : Failed). has_pair f (key_of p)) c.limit.ensures
    ∙ same_pairs c.args.self.now.failed c.args.budget.bytes (key_of p) ∙ have p
