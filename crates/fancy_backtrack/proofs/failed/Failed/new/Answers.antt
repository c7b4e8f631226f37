use Rattle.fancy_backtrack.proofs.FailedLaws.{none_memoized}
use Rattle.fancy_backtrack.proofs.failed.Failed.new.Goals as goal

pub returns : goal.returns
returns c = none_memoized _ c.new.ensures.empty c.new-2.ensures.empty
