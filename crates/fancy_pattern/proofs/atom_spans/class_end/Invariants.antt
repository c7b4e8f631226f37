use Rattle.std.proofs.Common.{◌≡◌, drop, map}
use Rattle.fancy_pattern.specs.AtomSpans.{class_end}
use Rattle.fancy_tokens.specs.PatternViews.{placed_of}
use Rattle.fancy_pattern.proofs.atom_spans.class_end.Given as goal

abbrev pub invariant-loop-at : goal.invariant-loop-at
invariant-loop-at l = class_end (map placed_of (drop l.at l.tokens)) ≡ class_end (map placed_of l.tokens)
