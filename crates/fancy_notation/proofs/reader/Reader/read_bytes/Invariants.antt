use Rattle.std.proofs.Common.{length}
use Rattle.fancy_notation.proofs.Loops.{BytesRead}
use Rattle.fancy_notation.proofs.reader.Reader.read_bytes.Given as goal

abbrev pub invariant-loop-bytes : goal.invariant-loop-bytes
invariant-loop-bytes l = BytesRead l.fn.self l.self l.bytes.items

abbrev pub decreases-loop-bytes : goal.decreases-loop-bytes
decreases-loop-bytes l = length l.self.rest.now
