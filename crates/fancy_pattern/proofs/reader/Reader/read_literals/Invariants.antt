use Rattle.std.proofs.Common.{◌+◌, ◌≤◌, length}
use Rattle.fancy_pattern.specs.Grammar.{Names}
use Rattle.fancy_pattern.specs.Reading.{PushesRow}
use Rattle.fancy_pattern.proofs.reader.Reader.read_literals.Given as goal

abbrev pub invariant-loop-val : goal.invariant-loop-val
invariant-loop-val l =
    record {
      row : (names : Names) → PushesRow names l.fn.self l.self l.fn.nodes.items l.nodes.items;
      shorter : length l.self.rest.now + 1 ≤ length l.fn.self.rest.now;
    }

abbrev pub decreases-loop-val : goal.decreases-loop-val
decreases-loop-val l = length l.self.rest.now
