use Rattle.std.proofs.Common.{◌≡◌, ◌≤◌, true, length}
use Rattle.fancy_meaning.specs.Assertions.{only_newlines_left}
use Rattle.fancy_steps.proofs.trailing_newlines.newlines_start.Given as goal

abbrev pub invariant-newlines : goal.invariant-newlines
invariant-newlines l = record {
  inside : l.from ≤ length l.text;
  all : only_newlines_left l.text l.from l.crlf ≡ true;
}

abbrev pub decreases-newlines : goal.decreases-newlines
decreases-newlines l = l.from
