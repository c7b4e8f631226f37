use Rattle.std.proofs.Common.{◌≡◌, ◌≤◌, Bool, ℕ, List, suc, length}
use Rattle.fancy_grep.specs.Globs.{IsRow, token_of}
use Rattle.fancy_grep.proofs.GlobLaws.{Passed}
use Rattle.fancy_grep.proofs.globs.Token.add_before.Given as goal

abbrev pub invariant-loop-at : goal.invariant-loop-at
invariant-loop-at l = record {
  within : l.at ≤ length l.name;
  long : length l.row ≡ suc (length l.name);
  passed : (rest : List ℕ → Bool) → IsRow rest l.name l.fn.row → Passed (token_of l.self) rest l.name l.at l.row l.ends l.more;
}

abbrev pub decreases-loop-at : goal.decreases-loop-at
decreases-loop-at l = l.at
