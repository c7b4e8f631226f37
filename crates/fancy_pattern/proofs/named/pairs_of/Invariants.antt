use Rattle.std.proofs.Common.{◌≡◌, take, map}
use Rattle.fancy_pattern.specs.Naming.{pairs_in, named_in}
use Rattle.fancy_tokens.specs.PatternViews.{placed_of}
use Rattle.fancy_pattern.proofs.named.pairs_of.Given as goal

abbrev pub invariant-loop-placed : goal.invariant-loop-placed
invariant-loop-placed l = pairs_in l.pairs ≡ named_in (map placed_of (take l.placed-index l.tokens))
