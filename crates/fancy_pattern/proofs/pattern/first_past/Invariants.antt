use Rattle.std.proofs.Common.{◌≡◌, drop}
use Rattle.fancy_pattern.specs.Described.{first_past}
use Rattle.fancy_pattern.proofs.pattern.first_past.Given as goal

abbrev pub invariant-loop-group : goal.invariant-loop-group
invariant-loop-group l = first_past l.groups (drop l.group-index l.references) ≡ first_past l.groups l.references
