use Rattle.fancy_literals.specs.Required.{OneOf}
use Rattle.fancy_grep.specs.Standing.{StandsNowhere}
use Rattle.fancy_grep.proofs.occurrences.byte_from.Given as goal

abbrev pub invariant-bytes : goal.invariant-bytes
invariant-bytes l = StandsNowhere (OneOf l.fn.bytes) l.fn.text l.fn.start l.at
