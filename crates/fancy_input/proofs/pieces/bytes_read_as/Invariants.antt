use Rattle.std.specs.Prelude.{◌-◌}
use Rattle.fancy_input.specs.Pieces.{length_of}
use Rattle.fancy_input.proofs.PieceLaws.{Left}
use Rattle.fancy_input.proofs.pieces.bytes_read_as.Given as goal

abbrev pub invariant-characters : goal.invariant-characters
invariant-characters l = Left l.left l.length (l.count - l._place) (length_of l.fn.bytes l.count)
