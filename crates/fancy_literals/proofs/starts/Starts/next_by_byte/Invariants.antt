use Rattle.std.proofs.Common.{◌≡◌, true}
use Rattle.memchr.specs.Find.{Nowhere}
use Rattle.fancy_literals.specs.Starts.{is_preceded, may_begin}
use Rattle.fancy_literals.proofs.starts.Starts.next_by_byte.Given as goal

abbrev pub invariant-bytes : goal.invariant-bytes
invariant-bytes l = Nowhere (λ k. may_begin l.fn.self l.fn.text k ≡ true) l.fn.from l.at × (l.is_preceded ≡ is_preceded l.fn.self l.fn.text l.at)
