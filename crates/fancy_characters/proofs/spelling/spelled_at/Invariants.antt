use Rattle.std.proofs.Common.{◌≡◌, ◌<◌, ◌≤◌, length, drop, chars}
use Rattle.std.specs.Str.{chars_after}
use Rattle.fancy_characters.proofs.SpellingLaws.{most_before}
use Rattle.fancy_characters.proofs.spelling.spelled_at.Given as goal

abbrev pub invariant-spell : goal.invariant-spell
invariant-spell l =
    (chars (drop l.at l.bytes) ≡ chars_after l.left l.code (drop l.next l.bytes))
    × (l.code < most_before l.left) × (l.left ≤ 3) × (l.at < l.next) × (l.next ≤ length l.bytes)

abbrev pub decreases-spell : goal.decreases-spell
decreases-spell l = l.left
