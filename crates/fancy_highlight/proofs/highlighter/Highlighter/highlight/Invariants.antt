use Rattle.std.proofs.Common.{◌≡◌}
use Rattle.fancy_highlight.proofs.highlighter.Highlighter.highlight.Given as goal

abbrev pub invariant-loop-line : goal.invariant-loop-line
invariant-loop-line l = record {
  written : l.writer.text.now ≡ l.fn.text;
  reported : l.reports.text.now ≡ l.fn.text;
}
