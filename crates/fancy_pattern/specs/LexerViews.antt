-- The contracts of the lexer's calls.
use Rattle.std.specs.Prelude.{◌≡◌, Bool, true, false, List, [], ◌∷◌, ◌++◌, map}
use Rattle.fancy_pattern.specs.declared.lexer.Lexer.{Lexer}
use Rattle.fancy_pattern.specs.Texts.{Text}
use Rattle.fancy_tokens.specs.Tokens.{Placed}
use Rattle.fancy_pattern.specs.Lexing.{State, Lexes}
use Rattle.fancy_tokens.specs.PatternViews.{placed_of}

abbrev pub state_of : Lexer → State
state_of l = record { now = l.now; outer = l.outer.items }

abbrev pub text_of : Lexer → Text
text_of l = l.rest.now

abbrev pub placed_in : Lexer → List Placed
placed_in l = map placed_of l.tokens.items

-- one token was added, and nothing else changed
pub record Pushes (p : Placed) (old new : Lexer) : Type 0 where
  pub tokens : placed_in new ≡ placed_in old ++ p ∷ []
  pub state : state_of new ≡ state_of old
  pub text : text_of new ≡ text_of old

-- these tokens were added, and they begin the tokens of the text; where it goes on those of what is left follow
abbrev pub Steps : Bool → Lexer → Lexer → Type 0
Steps true old new =
    (added : List Placed)
    × (placed_in new ≡ placed_in old ++ added)
    × ((ts : List Placed) →
    Lexes (state_of new) (text_of new) ts → Lexes (state_of old) (text_of old) (added ++ ts))
Steps false old new =
    (added : List Placed)
    × (placed_in new ≡ placed_in old ++ added)
    × Lexes (state_of old) (text_of old) added
