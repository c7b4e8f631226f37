use Rattle.std.proofs.Common.{◌≡◌, min}
use Rattle.fancy_meaning.specs.Places as place
use Rattle.fancy_program.proofs.moves.chars_between.Given as goal

abbrev pub invariant-places : goal.invariant-places
invariant-places l = l.count ≡ place.chars_between l.text l.from (min l.pos l.to)
