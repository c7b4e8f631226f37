use Rattle.fancy_fragments.specs.Fragments.{IsMemoFor}
use Rattle.fancy_tests.proofs.fragments.visits_together.Given as goal

abbrev pub invariant-starts : goal.invariant-starts
invariant-starts l = IsMemoFor l.text l.fragment l.memo
