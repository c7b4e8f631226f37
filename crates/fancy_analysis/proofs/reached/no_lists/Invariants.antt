use Rattle.std.proofs.Common.{◌≡◌, [], All, length}
use Rattle.fancy_analysis.proofs.reached.no_lists.Given as goal

abbrev pub invariant-loop-i : goal.invariant-loop-i
invariant-loop-i l = record {
  length : length l.lists.items ≡ l.i;
  none : All (λ list. list.items ≡ []) l.lists.items;
}
