use Rattle.std.proofs.Common.{◌≡◌, map, string_bytes, length}
use Rattle.fancy_command.specs.Arguments as line
use Rattle.fancy_command.proofs.arguments.Arguments.with_options.Given as goal

abbrev pub invariant-loop-word : goal.invariant-loop-word
invariant-loop-word l = line.with_options l.arguments (map string_bytes l.rest) ≡ line.with_options l.fn.self (map string_bytes l.fn.words)

abbrev pub decreases-loop-word : goal.decreases-loop-word
decreases-loop-word l = length l.rest
