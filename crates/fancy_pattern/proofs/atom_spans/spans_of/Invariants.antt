use Rattle.std.proofs.Common.{◌≡◌, ◌++◌, drop, map}
use Rattle.fancy_pattern.specs.AtomSpans.{spans_from}
use Rattle.fancy_pattern.specs.Naming.{pairs_in}
use Rattle.fancy_tokens.specs.PatternViews.{placed_of}
use Rattle.fancy_pattern.proofs.atom_spans.spans_of.Given as goal

abbrev pub invariant-loop-at : goal.invariant-loop-at
invariant-loop-at l =
    l.spans.items ++ spans_from (pairs_in l.names.pairs) l.length (map placed_of (drop l.at l.tokens))
    ≡ spans_from (pairs_in l.names.pairs) l.length (map placed_of l.tokens)
