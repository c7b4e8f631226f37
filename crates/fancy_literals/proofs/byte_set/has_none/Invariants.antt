use Rattle.memchr.specs.Find.{Nowhere, Passes}
use Rattle.fancy_literals.specs.ByteSets.{is_in}
use Rattle.fancy_literals.proofs.byte_set.has_none.Given as goal

abbrev pub invariant-text : goal.invariant-text
invariant-text l = Nowhere (Passes (is_in l.fn.bytes) l.fn.text) 0 l.at
