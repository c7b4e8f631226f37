use Rattle.std.proofs.Common.{◌+◌, ◌*◌}
use Rattle.fancy_highlight.proofs.reader.Reader.+reading.Given as goal

abbrev pub decreases-capture : goal.decreases-capture
decreases-capture l = 4 * l.depth

abbrev pub decreases-captures : goal.decreases-captures
decreases-captures l = 4 * l.depth + 1

abbrev pub decreases-region : goal.decreases-region
decreases-region l = 4 * l.depth + 2

abbrev pub decreases-rule_at : goal.decreases-rule_at
decreases-rule_at l = 4 * l.depth

abbrev pub decreases-rule : goal.decreases-rule
decreases-rule l = 4 * l.depth

abbrev pub decreases-patterns : goal.decreases-patterns
decreases-patterns l = 4 * l.depth

abbrev pub decreases-repository : goal.decreases-repository
decreases-repository l = 4 * l.depth
