use Rattle.std.proofs.Common.{◌≤◌, length}
use Rattle.fancy_grep.specs.Lines.{lines_left}
use Rattle.fancy_grep.proofs.MatchingLaws.{Searched}
use Rattle.fancy_grep.proofs.matching.matching_lines.Given as goal

abbrev pub invariant-loop-line : goal.invariant-loop-line
invariant-loop-line l =
    Searched l.fn.regex l.required l.choice l.text l.lines.items l.regex l.occurrences (lines_left l.line-iterator)
    × (length l.lines.items ≤ l.most)
