use Rattle.std.proofs.Common.{vec_len}
use Rattle.fancy_grep.proofs.files.Run.search_entry.Given as goal

abbrev pub decreases-loop-path : goal.decreases-loop-path
decreases-loop-path l = vec_len l.paths
