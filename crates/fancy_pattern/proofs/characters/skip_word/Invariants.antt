use Rattle.std.proofs.Common.{◌≡◌, ◌+◌, length, drop}
use Rattle.fancy_pattern.specs.Texts.{skip_word}
use Rattle.fancy_pattern.proofs.characters.skip_word.Given as goal

-- the rest of the word is wanted in what is left
abbrev pub invariant-loop-byte : goal.invariant-loop-byte
invariant-loop-byte l =
    (skip_word (drop l.byte-index l.word) l.rest ≡ skip_word l.word l.fn.text) × (length l.rest + l.byte-index ≡ length l.fn.text)
