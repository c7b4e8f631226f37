use Rattle.std.proofs.Common.{◌≡◌, ◌≤◌, ◌-◌, length, true}
use Rattle.memchr.specs.Find.{Nowhere}
use Rattle.fancy_literals.specs.Starts.{may_begin}
use Rattle.fancy_literals.proofs.starts.Starts.next_literal.Given as goal

abbrev pub invariant-seek : goal.invariant-seek
invariant-seek l = Nowhere (λ k. may_begin l.fn.self l.fn.text k ≡ true) l.fn.from l.at × (l.fn.from ≤ l.at)

abbrev pub decreases-seek : goal.decreases-seek
decreases-seek l = length l.bytes - l.at
