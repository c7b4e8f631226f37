use Rattle.std.proofs.Common.{◌≡◌, false, map, take}
use Rattle.fancy_grep.specs.Lines.{line_of}
use Rattle.fancy_grep.specs.Outputs.{Writes}
use Rattle.fancy_grep.specs.Printed.{needs_matches, printed_lines}
use Rattle.fancy_grep.proofs.reports.Page.push_lines.Given as goal

abbrev pub invariant-loop-line : goal.invariant-loop-line
invariant-loop-line g l =
    needs_matches (l.self).settings ≡ false →
    Writes g.W.Write.contents l.initial.out l.out
    (printed_lines (l.self).settings (l.self).style (l.self).passed (l.self).part (map line_of (take l.line-index l.lines)))
