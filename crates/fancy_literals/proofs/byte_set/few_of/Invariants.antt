use Rattle.std.proofs.Common.{◌≡◌, ◌<◌, ℕ, true}
use Rattle.fancy_literals.specs.ByteSets.{is_in, is_one_of}
use Rattle.fancy_literals.proofs.byte_set.few_of.Given as goal

abbrev pub invariant-bytes : goal.invariant-bytes
invariant-bytes l = (other : ℕ) → other < l.byte → is_in l.fn.bytes other ≡ true → is_one_of l.few other ≡ true
