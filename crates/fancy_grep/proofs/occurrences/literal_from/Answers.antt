use Rattle.std.proofs.Common.{◌+◌, length, subst}
use Rattle.memchr.specs.Find.{NoneBefore, Nowhere, OccursAt}
use Rattle.fancy_literals.specs.Required.{Piece}
use Rattle.fancy_grep.specs.Standing.{StandsNowhere}
use Rattle.fancy_grep.proofs.StandingLaws.{after_byte, stands_not_before, stands_nowhere}
use Rattle.fancy_grep.proofs.occurrences.literal_from.Goals as goal

pub returns-in-Some : goal.returns-in-Some
returns-in-Some c =
    let bytes = c.as_bytes.result.now in
    subst (λ text. StandsNowhere (Piece c.args.literal.now) text c.args.start (c.args.start + c.in-Some.at)) c.as_bytes.ensures.value
    (stands_not_before c.args.literal.now bytes c.args.start c.in-Some.at _
    (subst (λ rest. NoneBefore (OccursAt rest c.args.literal.now) 0 (length rest + 1) c.in-Some.at) (after_byte bytes c.args.start)
    c.in-Some.ensures.0))

pub returns-in-None : goal.returns-in-None
returns-in-None c =
    let bytes = c.as_bytes.result.now in
    subst (λ text. StandsNowhere (Piece c.args.literal.now) text c.args.start 18446744073709551615) c.as_bytes.ensures.value
    (stands_nowhere c.args.literal.now bytes c.args.start 18446744073709551615
    (subst (λ rest. Nowhere (OccursAt rest c.args.literal.now) 0 (length rest + 1)) (after_byte bytes c.args.start) c.in-None.ensures))
