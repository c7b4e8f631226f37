use Rattle.std.proofs.Common.{◌≡◌, false}
use Rattle.fancy_grep.specs.Printed.{needs_matches}
use Rattle.fancy_grep.proofs.PrintedLaws.{Reached}
use Rattle.fancy_grep.proofs.reports.Page.push_all.Given as goal

abbrev pub invariant-loop-shown : goal.invariant-loop-shown
invariant-loop-shown g l =
    needs_matches (l.self).settings ≡ false →
    Reached g.W.Write.contents l.self l.initial.out l.out (l.initial.around).last (l.around).last l.lines l.shown-index
