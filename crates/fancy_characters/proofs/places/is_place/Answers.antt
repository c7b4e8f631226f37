use Rattle.std.proofs.Common.{arith}
use Rattle.std.proofs.lemmas.Bool.Decides.{nat_tests}
use Rattle.fancy_characters.proofs.PlacesLaws.{place_inside, place_past}
use Rattle.fancy_characters.proofs.places.is_place.Goals as goal
use Rattle.fancy_characters.proofs.places.is_place.Goals.{then-text-ix-ge128, else-text-ix-ge128}

pub returns-after-text-ix-ge128 : goal.returns-after-text-ix-ge128
returns-after-text-ix-ge128 c =
    place_inside c.args.text.now c.args.ix c.if-text-ix-ge128.result c.if-ix-text.true
    (elim c.if-text-ix-ge128.branch [ then-text-ix-ge128 w ↦ grind (arith, nat_tests) | else-text-ix-ge128 w ↦ grind (arith, nat_tests) ])

pub returns-else-ix-text : goal.returns-else-ix-text
returns-else-ix-text c = place_past c.args.text.now c.args.ix (omega arith)
