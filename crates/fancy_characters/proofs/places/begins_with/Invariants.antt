use Rattle.std.proofs.Common.{◌≡◌, nat_eq, drop}
use Rattle.std.specs.List.{starts_with}
use Rattle.fancy_characters.proofs.places.begins_with.Given as goal

abbrev pub invariant-bytes : goal.invariant-bytes
invariant-bytes l = starts_with nat_eq (drop l.i l.text) (drop l.i l.bytes) ≡ starts_with nat_eq l.text l.bytes
