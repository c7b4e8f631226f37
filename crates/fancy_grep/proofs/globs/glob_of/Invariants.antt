use Rattle.std.proofs.Common.{◌≡◌, ◌++◌, ◌≤◌, ℕ, length}
use Rattle.fancy_grep.specs.Globs.{glob_of, read, tokens_of}
use Rattle.fancy_grep.proofs.globs.glob_of.Given as goal

abbrev pub invariant-loop-left : goal.invariant-loop-left
invariant-loop-left l = record {
  most : ℕ;
  enough : length l.left ≤ most;
  same : tokens_of l.tokens.items ++ read most l.is_path l.begins l.left ≡ glob_of l.is_path l.fn.text;
}

abbrev pub decreases-loop-left : goal.decreases-loop-left
decreases-loop-left l = length l.left
