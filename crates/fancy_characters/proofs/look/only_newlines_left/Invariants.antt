use Rattle.std.proofs.Common.{◌≡◌}
use Rattle.fancy_meaning.specs.Assertions.{only_newlines_left}
use Rattle.fancy_characters.proofs.look.only_newlines_left.Given as goal

abbrev pub invariant-loop-at : goal.invariant-loop-at
invariant-loop-at l = only_newlines_left l.text l.at l.crlf ≡ only_newlines_left l.text l.ix l.crlf
