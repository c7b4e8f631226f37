use Rattle.std.proofs.Common.{◌≡◌, [], drop}
use Rattle.fancy_pattern.specs.Described.{up_to}
use Rattle.fancy_pattern.proofs.pattern.within.Given as goal

abbrev pub invariant-loop-group : goal.invariant-loop-group
invariant-loop-group l = up_to l.groups l.backrefs.keys (drop l.group-index l.references) ≡ up_to l.groups [] l.references
