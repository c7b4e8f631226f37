use Rattle.std.proofs.Common.{length}
use Rattle.fancy_grep.proofs.globs.+between.Given as goal

abbrev pub decreases-between : goal.decreases-between
decreases-between l = length l.tokens.now
