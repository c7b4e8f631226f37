use Rattle.std.proofs.Common.{◌≡◌, ◌≤◌, ℕ, true, length}
use Rattle.fancy_grep.specs.Globs.{ranges}
use Rattle.fancy_grep.proofs.GlobLaws.{put_after}
use Rattle.fancy_grep.proofs.globs.ranges.Given as goal

abbrev pub invariant-loop-left : goal.invariant-loop-left
invariant-loop-left l = record {
  most : ℕ;
  enough : length l.left ≤ most;
  shorter : length l.left ≤ length l.fn.text;
  same : put_after l.ranges.items (ranges most l.is_first l.left) ≡ ranges (length l.fn.text) true l.fn.text;
}

abbrev pub decreases-loop-left : goal.decreases-loop-left
decreases-loop-left l = length l.left
