use Rattle.std.proofs.Common.{refl, ap}
use Rattle.fancy_notation.specs.NotationViews.{placed_of, all_placed}
use Rattle.fancy_notation.proofs.reader.Reader.take.Goals as goal

pub returns-in-Some-Some : goal.returns-in-Some-Some
returns-in-Some-Some c c' = (
  c'.in-Some-Some.is-0,
  record { first = placed_of c'.in-Some-Some.field-0-0-1.now; tokens = ap all_placed c'.in-Some-Some.ensures.cases.0; groups = refl; end = refl },
)
