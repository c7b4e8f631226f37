use Rattle.std.proofs.Common.{◌≡◌, map, string_bytes, take}
use Rattle.fancy_grep.specs.Patterns.{read_as}
use Rattle.fancy_grep.proofs.patterns.all_read.Given as goal

abbrev pub invariant-loop-pattern : goal.invariant-loop-pattern
invariant-loop-pattern l = map string_bytes l.read.items ≡ map (read_as l.is_text) (map string_bytes (take l.pattern-index l.patterns))
