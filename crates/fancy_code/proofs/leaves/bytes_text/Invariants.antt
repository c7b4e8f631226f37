use Rattle.std.proofs.Common.{◌≡◌, take, encode_utf8_all, string_bytes}
use Rattle.fancy_code.proofs.leaves.bytes_text.Given as goal

abbrev pub invariant-loop-byte : goal.invariant-loop-byte
invariant-loop-byte l = string_bytes l.text ≡ encode_utf8_all (take l.byte-index l.bytes)
