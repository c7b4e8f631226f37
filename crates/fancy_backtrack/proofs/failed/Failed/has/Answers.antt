use Rattle.std.proofs.Common.{◌∙◌}
use Rattle.fancy_backtrack.proofs.FailedLaws.{memoized_at}
use Rattle.fancy_backtrack.proofs.failed.Failed.has.Goals as goal

pub returns-in-Some : goal.returns-in-Some
returns-in-Some c = c.has_number.ensures ∙ memoized_at c.args.self.now c.args.pair.now _ c.in-Some.ensures

pub returns-in-None : goal.returns-in-None
returns-in-None c = c.contains.ensures ∙ memoized_at c.args.self.now c.args.pair.now _ c.in-None.ensures
