use Rattle.std.proofs.Common.{◌≡◌, encode_utf8_all, string_bytes}
use Rattle.fancy_pattern.specs.Escape.{escaped}
use Rattle.fancy_pattern.proofs.escape.escape.Given as goal

abbrev pub invariant-loop-c : goal.invariant-loop-c
invariant-loop-c l = string_bytes l.out ≡ encode_utf8_all (escaped l.yielded)
