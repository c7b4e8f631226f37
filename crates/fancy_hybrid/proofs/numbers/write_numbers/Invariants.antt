use Rattle.std.proofs.Common.{◌≡◌, ◌∷◌}
use Rattle.fancy_hybrid.specs.Cells.{numbers_from}
use Rattle.fancy_hybrid.proofs.numbers.write_numbers.Given as goal

abbrev pub invariant-groups : goal.invariant-groups
invariant-groups l = l.numbers.items ≡ l.from ∷ l.end ∷ numbers_from l.cells l.group
