-- Tokens as plain values, with the byte of each.
use Rattle.std.specs.Prelude.{ℕ, Bool, List}

pub data Token : Type 0 where
  Opened Closed : Token
  -- a text between quotes, without its escapes
  Quoted : (folded : Bool) (text : List ℕ) → Token
  Word : List ℕ → Token
  -- a text between quotes that is malformed or has no end
  Broken : Token

-- a token and the byte at which it begins
pub record Placed : Type 0 where
  pub at : ℕ
  pub token : Token
