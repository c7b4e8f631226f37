use Rattle.std.proofs.Common.{◌≡◌}
use Rattle.fancy_meaning.specs.Places as place
use Rattle.fancy_program.proofs.moves.back_by.Given as goal

abbrev pub invariant-back : goal.invariant-back
invariant-back l = place.back_by l.text l.left l.pos ≡ place.back_by l.text l.chars l.ix

abbrev pub decreases-back : goal.decreases-back
decreases-back l = l.pos
