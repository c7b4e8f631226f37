use Rattle.std.proofs.Common.{◌≡◌, ◌≤◌, suc, length, drop}
use Rattle.fancy_grep.specs.Globs.{IsRow, matches, tokens_of}
use Rattle.fancy_grep.proofs.GlobLaws.{AreOff}
use Rattle.fancy_grep.proofs.globs.matches_by_rows.Given as goal

abbrev pub invariant-loop-c : goal.invariant-loop-c
invariant-loop-c l = record {
  long : length l.row.items ≡ l.c-index;
  off : AreOff l.row.items;
}

abbrev pub invariant-loop-left : goal.invariant-loop-left
invariant-loop-left l = record {
  within : l.left ≤ length l.tokens;
  long : length l.row.items ≡ suc (length l.name);
  row : IsRow (matches (tokens_of (drop l.left l.tokens))) l.name l.row.items;
}

abbrev pub decreases-loop-left : goal.decreases-loop-left
decreases-loop-left l = l.left
