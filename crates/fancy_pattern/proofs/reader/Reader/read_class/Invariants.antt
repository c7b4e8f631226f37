use Rattle.std.proofs.Common.{length, string_bytes}
use Rattle.fancy_pattern.proofs.Points.{ClassRead}
use Rattle.fancy_pattern.proofs.reader.Reader.read_class.Given as goal

abbrev pub invariant-loop-piece : goal.invariant-loop-piece
invariant-loop-piece l = ClassRead l.fn.self l.self (string_bytes l.text)

abbrev pub decreases-loop-piece : goal.decreases-loop-piece
decreases-loop-piece l = length l.self.rest.now
