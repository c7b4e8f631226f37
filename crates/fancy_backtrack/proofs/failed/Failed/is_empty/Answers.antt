use Rattle.std.proofs.Common.{refl}
use Rattle.std.proofs.lemmas.List.{nil_from_length}
use Rattle.fancy_backtrack.proofs.FailedLaws.{none_memoized}
use Rattle.fancy_backtrack.proofs.failed.Failed.is_empty.Goals as goal

pub returns-then-is_empty : goal.returns-then-is_empty
returns-then-is_empty c = λ none.
    none_memoized c.args.self.now (nil_from_length _ (c.if-is_empty.ensures.0 refl)) (nil_from_length _ (c.is_empty-then-is_empty.ensures.0 none))
