use Rattle.std.proofs.Common.{◌≡◌, drop}
use Rattle.fancy_pattern.specs.Texts.{skip_common}
use Rattle.fancy_pattern.proofs.groups.skip_common.Given as goal

-- the rest of the word is compared with what is left
abbrev pub invariant-loop-byte : goal.invariant-loop-byte
invariant-loop-byte l = skip_common (drop l.byte-index l.word) l.rest ≡ skip_common l.word l.fn.text
