use Rattle.std.proofs.Common.{◌≡◌, ◌-◌, suc, length}
use Rattle.fancy_matches.specs.Matchers.{matches_iteration}
use Rattle.fancy_matches.proofs.Counting.{HasCounted}
use Rattle.fancy_matches.proofs.count.count_matches.Given as goal

abbrev pub invariant-matches : goal.invariant-matches
invariant-matches l =
    HasCounted l.fn.matcher l.text l.count (matches_iteration l.matches)
    × (l.matches.matcher.ghost_name ≡ l.initial.matches.matcher.ghost_name)

abbrev pub decreases-matches : goal.decreases-matches
decreases-matches l = suc (length l.matches.text.now) - l.matches.cursor.pos
