use Rattle.std.proofs.Common.{length}
use Rattle.fancy_grep.proofs.globs.+after_stars.Given as goal

abbrev pub decreases-after_stars : goal.decreases-after_stars
decreases-after_stars l = length l.text.now
