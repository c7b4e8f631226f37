use Rattle.std.proofs.Common.{◌≡◌}
use Rattle.fancy_highlight.proofs.writer.Writer.write_all.Given as goal

abbrev pub invariant-loop-token : goal.invariant-loop-token
invariant-loop-token l = l.self.text.now ≡ l.fn.self.text.now
