use Rattle.std.proofs.Common.{◌≡◌, map}
use Rattle.fancy_meaning.specs.Places.{range_from}
use Rattle.fancy_faults.specs.Leaves.{byte_of}
use Rattle.fancy_faults.proofs.leaves.character_bytes.Given as goal

abbrev pub invariant-loop-c : goal.invariant-loop-c
invariant-loop-c l = record {
  bytes : l.bytes.items ≡ map (byte_of l.text) (range_from 0 l.c-index);
  at : l.at ≡ byte_of l.text l.c-index;
}
