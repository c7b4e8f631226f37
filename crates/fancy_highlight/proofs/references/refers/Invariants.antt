use Rattle.std.proofs.Common.{◌≡◌, ◌||◌, ◌++◌, ℕ, List}
use Rattle.fancy_highlight.specs.Ends.{refers}
use Rattle.fancy_highlight.proofs.BackReferences.{refers_after}
use Rattle.fancy_highlight.proofs.references.refers.Given as goal

abbrev pub invariant-loop-c : goal.invariant-loop-c
invariant-loop-c l = (rest : List ℕ) → refers (l.yielded ++ rest) ≡ (l.found || refers_after l.is_escaped rest)
