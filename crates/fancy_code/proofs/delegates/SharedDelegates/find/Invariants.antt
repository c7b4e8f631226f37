use Rattle.fancy_code.proofs.delegates.SharedDelegates.find.Given as goal

abbrev pub invariant-loop-place : goal.invariant-loop-place
invariant-loop-place l = Unit {0}
