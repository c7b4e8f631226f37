use Rattle.std.proofs.Common.{◌≡◌, ◌++◌, take, encode_utf8_all, string_bytes}
use Rattle.fancy_pattern.proofs.class_text.push_chars.Given as goal

abbrev pub invariant-loop-c : goal.invariant-loop-c
invariant-loop-c l = string_bytes l.out ≡ string_bytes l.fn.out ++ encode_utf8_all (take l.c-index l.chars)
