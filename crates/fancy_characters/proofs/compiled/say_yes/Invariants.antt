use Rattle.std.proofs.Common.{◌≡◌, ℕ, ◌<◌, ◌||◌, false, length, slice_index_or}
use Rattle.fancy_characters.proofs.AsciiLaws.{in_front}
use Rattle.fancy_characters.proofs.compiled.say_yes.Given as goal

abbrev pub invariant-fill : goal.invariant-fill
invariant-fill l =
    ((k : ℕ) → k < 128 → slice_index_or l.answers k false ≡ (slice_index_or l.fn.answers k false || in_front l.fn.range l.c k))
    × (length l.answers ≡ 128)
