use Rattle.std.proofs.Common.{◌≡◌}
use Rattle.fancy_highlight.proofs.omitted.Reports.push_all.Given as goal

abbrev pub invariant-loop-report : goal.invariant-loop-report
invariant-loop-report l = l.self.text.now ≡ l.fn.self.text.now
