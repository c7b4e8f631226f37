use Rattle.std.proofs.Common.{◌≡◌, take, map, encode_utf8_all, string_bytes}
use Rattle.fancy_code.proofs.batches.chars_insn.Given as goal

abbrev pub invariant-loop-c : goal.invariant-loop-c
invariant-loop-c l = string_bytes l.text ≡ encode_utf8_all (map (λ c. c.0) (take l.c-index l.c-items))
