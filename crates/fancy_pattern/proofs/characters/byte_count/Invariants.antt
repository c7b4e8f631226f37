use Rattle.std.proofs.Common.{◌≡◌, ◌+◌, ◌^◌, ◌<◌, length, drop, encode_utf8_all}
use Rattle.fancy_pattern.proofs.characters.byte_count.Given as goal

abbrev pub invariant-loop-c : goal.invariant-loop-c
invariant-loop-c l =
    length (encode_utf8_all l.text) < 2 ^ 64 → l.count + length (encode_utf8_all (drop l.c-index l.text)) ≡ length (encode_utf8_all l.text)
