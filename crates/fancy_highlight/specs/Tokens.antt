-- Tokens that cover a text.
use Rattle.std.specs.Prelude.{◌≡◌, ◌<◌, ℕ, IsTrue, List, [], ◌∷◌, length}
use Rattle.std.proofs.Props.{props}
use Rattle.fancy_meaning.specs.Places.{is_place}
use Rattle.fancy_highlight.specs.declared.tokens.Token.{Token}

-- it begins at this place of the text, takes something, and ends at a place between two characters
pub record IsToken (text : List ℕ) (from : ℕ) (t : Token) : Type 0 where
  pub begins : t.start ≡ from
  pub takes : t.start < t.end
  pub ends : IsTrue (is_place text t.end)

-- from one place of the text to another, each begins where the one before ends
abbrev pub AreTokens : List ℕ → ℕ → List Token → ℕ → Type 0
AreTokens text from [] to = from ≡ to
AreTokens text from (t ∷ tokens) to = IsToken text from t × AreTokens text t.end tokens to

-- from its start to its end
abbrev pub Covers : List ℕ → List Token → Type 0
Covers text tokens = AreTokens text 0 tokens (length text)

pub AreTokens-prop : (text : List ℕ) (from : ℕ) (tokens : List Token) (to : ℕ) → IsProp (AreTokens text from tokens to)
AreTokens-prop text from [] to = hlevel props
AreTokens-prop text from (t ∷ tokens) to = hlevel (props, AreTokens-prop text t.end tokens to)
