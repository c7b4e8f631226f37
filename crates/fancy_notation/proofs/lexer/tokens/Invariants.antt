use Rattle.std.proofs.Common.{length}
use Rattle.fancy_notation.proofs.Lexed.{Lexed}
use Rattle.fancy_notation.proofs.lexer.tokens.Given as goal

abbrev pub invariant-loop-c : goal.invariant-loop-c
invariant-loop-c l = Lexed l.text l.lexer l.at (length l.yielded)
