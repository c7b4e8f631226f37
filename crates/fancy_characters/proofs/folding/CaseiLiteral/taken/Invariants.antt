use Rattle.std.proofs.Common.{◌≡◌, ◌≤◌, max, length, drop}
use Rattle.fancy_meaning.specs.Moves.{past_chars}
use Rattle.fancy_characters.specs.Literals.{literal_tests}
use Rattle.fancy_characters.proofs.folding.CaseiLiteral.taken.Given as goal

abbrev pub invariant-take : goal.invariant-take
invariant-take l = (past_chars l.text (drop l.i (literal_tests l.self)) l.at ≡ past_chars l.text (literal_tests l.self) l.ix) × (l.ix ≤ l.at)
    × (l.at ≤ max l.ix (length l.text))
