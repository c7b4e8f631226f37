use Rattle.std.proofs.Common.{◌≤◌, true, length}
use Rattle.fancy_pattern.specs.LexerViews.{Steps}
use Rattle.fancy_pattern.proofs.lexer.Lexer.pass_literals.Given as goal

abbrev pub invariant-loop-token : goal.invariant-loop-token
invariant-loop-token l =
    record {
      steps : Steps true l.fn.self l.self;
      shorter : length l.self.rest.now ≤ length l.fn.self.rest.now;
    }

abbrev pub decreases-loop-token : goal.decreases-loop-token
decreases-loop-token l = length l.self.rest.now
