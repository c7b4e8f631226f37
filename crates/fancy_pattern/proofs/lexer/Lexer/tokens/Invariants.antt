use Rattle.std.proofs.Common.{List, ◌++◌, length}
use Rattle.fancy_pattern.specs.Lexing.{Lexes, at_start}
use Rattle.fancy_pattern.specs.LexerViews.{state_of, text_of, placed_in}
use Rattle.fancy_tokens.specs.Tokens.{Placed}
use Rattle.fancy_pattern.proofs.lexer.Lexer.tokens.Given as goal

-- the tokens so far begin those of the pattern
abbrev pub invariant-loop-lexer : goal.invariant-loop-lexer
invariant-loop-lexer l =
    (ts : List Placed) → Lexes (state_of l.lexer) (text_of l.lexer) ts → Lexes (at_start l.fn.flags) l.chars (placed_in l.lexer ++ ts)

abbrev pub decreases-loop-lexer : goal.decreases-loop-lexer
decreases-loop-lexer l = length l.lexer.rest.now
