use Rattle.std.proofs.Common.{◌≡◌, ◌≤◌, map, take}
use Rattle.std.specs.List.{list_any, count_by}
use Rattle.fancy_pattern.specs.Described.{opens_group, names_number}
use Rattle.fancy_pattern.specs.Surveyed.{names_group}
use Rattle.fancy_pattern.specs.Spelling.{opens_named}
use Rattle.fancy_tokens.specs.PatternViews.{placed_of}
use Rattle.fancy_pattern.proofs.facts.Facts.of.Given as goal

abbrev pub invariant-loop-placed : goal.invariant-loop-placed
invariant-loop-placed l =
    record {
      groups : l.facts.groups ≡ count_by (λ p. opens_group p.token) (map placed_of (take l.placed-index l.tokens));
      few : l.facts.groups ≤ l.placed-index;
      by_number : l.facts.by_number ≡ list_any (λ p. names_number p.token) (map placed_of (take l.placed-index l.tokens));
      named : l.facts.names_group ≡ list_any (λ p. names_group p.token) (map placed_of (take l.placed-index l.tokens));
      has_names : l.facts.has_names ≡ list_any (λ p. opens_named p.token) (map placed_of (take l.placed-index l.tokens));
    }
