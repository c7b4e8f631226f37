-- Characters of ASCII one after the other that pass a test.
use Rattle.std.specs.Prelude.{◌≡◌, ◌≤◌, ◌<◌, ℕ, Bool, true, List, length, slice_index_or}

-- at each place from the one up to the other stands a character of ASCII that passes
abbrev pub AllPass : (passes : ℕ → Bool) → (text : List ℕ) → (from to : ℕ) → Type 0
AllPass passes text from to =
    (i : ℕ) → from ≤ i → i < to →
    (i < length text) × (slice_index_or text i 0 < 128) × (passes (slice_index_or text i 0) ≡ true)
