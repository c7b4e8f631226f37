use Rattle.std.proofs.Common.{◌∙◌}
use Rattle.std.proofs.lemmas.List.{nil_from_length}
use Rattle.fancy_backtrack.proofs.FailedLaws.{none_memoized}
use Rattle.fancy_backtrack.proofs.failed.Failed.clear.Goals as goal

pub returns : goal.returns
returns c =
    none_memoized _ (nil_from_length _ (c.shrink_to.ensures.entries.1 ∙ c.clear.ensures.len))
    (nil_from_length _ (c.shrink_to-2.ensures.keys.1 ∙ c.clear-2.ensures.len))
