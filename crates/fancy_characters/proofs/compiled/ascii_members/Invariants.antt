use Rattle.std.proofs.Common.{◌≡◌, ℕ, ◌<◌, false, take, slice_index_or}
use Rattle.regex_class.specs.Ranges.{in_ranges}
use Rattle.fancy_characters.proofs.compiled.ascii_members.Given as goal

abbrev pub invariant-list : goal.invariant-list
invariant-list l = (c : ℕ) → c < 128 → slice_index_or l.answers c false ≡ in_ranges (take l.range-index l.range-items) c
