use Rattle.std.proofs.Common.{◌≡◌, ◌<◌, ◌||◌, ℕ, true, false, length, slice_index_or}
use Rattle.fancy_literals.proofs.bytes.both.Given as goal

abbrev pub invariant-bytes : goal.invariant-bytes
invariant-bytes l =
    ((byte : ℕ) → byte < 256 → (slice_index_or l.fn.first byte false || slice_index_or l.fn.second byte false) ≡ true →
    slice_index_or l.bytes byte false ≡ true)
    × (length l.bytes ≡ 256)
