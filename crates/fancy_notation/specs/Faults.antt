-- Where a fault is: the first token, or the end, that no expression goes on with.
use Rattle.std.specs.Prelude.{◌≡◌, ℕ, List, [], ◌∷◌, ◌++◌}
use Rattle.fancy_meaning.specs.Tree.{Tree}
use Rattle.fancy_notation.specs.Tokens.{Placed}
use Rattle.fancy_notation.specs.Grammar.{IsSpelled}

-- an expression begins with these tokens
abbrev pub CanBegin : List Placed → Type 0
CanBegin ts = (more : List Placed) × (e : Tree) × IsSpelled (ts ++ more) e

-- where the first token stands that cannot stand there, or the end of a text that ends too early
pub data IsFaultAt (end : ℕ) (ts : List Placed) (at : ℕ) : Type 0 where
  stray : (before after : List Placed) (p : Placed) →
      ts ≡ before ++ p ∷ after →
      at ≡ p.at →
      CanBegin before →
      (CanBegin (before ++ p ∷ []) → ⊥) →
      IsFaultAt end ts at
  early : at ≡ end → CanBegin ts → ((e : Tree) → IsSpelled ts e → ⊥) → IsFaultAt end ts at
