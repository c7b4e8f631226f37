use Rattle.std.proofs.Common.{length, ◌+◌, ◌-◌}
use Rattle.fancy_steps.specs.MemoRuns.{AddsNoMemo}
use Rattle.fancy_steps.proofs.memos.grow.Given as goal

abbrev pub invariant-places : goal.invariant-places
invariant-places l = AddsNoMemo l.initial.by_place.items l.by_place.items

abbrev pub decreases-places : goal.decreases-places
decreases-places l = l.pc + 1 - length l.by_place.items
