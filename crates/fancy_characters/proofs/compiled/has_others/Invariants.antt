use Rattle.std.proofs.Common.{◌≡◌, ℕ, ◌≤◌, take, false}
use Rattle.regex_class.specs.Ranges.{in_ranges}
use Rattle.fancy_characters.proofs.compiled.has_others.Given as goal

-- no range before holds a character beyond ASCII
abbrev pub invariant-list : goal.invariant-list
invariant-list l = (c : ℕ) → 128 ≤ c → in_ranges (take l.range-index l.range-items) c ≡ false
