use Rattle.std.proofs.Common.{◌≡◌, ◌++◌, ℕ, map}
use Rattle.fancy_grep.specs.Context.{IsAt, numbers_of, shown, shown_of}
use Rattle.fancy_grep.specs.Lines.{lines_left, lines_of}
use Rattle.fancy_grep.proofs.LineLaws.{AreCounted}
use Rattle.fancy_grep.proofs.context.with_context.Given as goal

abbrev pub invariant-loop-line : goal.invariant-loop-line
invariant-loop-line l = record {
  next : ℕ;
  stands : IsAt (numbers_of l.selected) next l.walk;
  counted : AreCounted next (lines_left l.line-iterator);
  shows : map shown_of l.lines.items ++ shown l.context l.owed (numbers_of l.selected) (lines_left l.line-iterator) ≡ shown l.context l.owed (numbers_of l.selected) (lines_of l.text);
}
