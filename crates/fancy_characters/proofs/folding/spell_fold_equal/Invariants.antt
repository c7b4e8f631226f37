use Rattle.std.proofs.Common.{◌≡◌, ◌-◌, length, drop, chars}
use Rattle.fancy_meaning.specs.Chars.{fold_equal_chars}
use Rattle.fancy_characters.proofs.folding.spell_fold_equal.Given as goal

abbrev pub invariant-pairs : goal.invariant-pairs
invariant-pairs l = fold_equal_chars (chars (drop l.i l.a)) (chars (drop l.j l.b)) ≡ fold_equal_chars (chars l.a) (chars l.b)

abbrev pub decreases-pairs : goal.decreases-pairs
decreases-pairs l = length l.a - l.i
