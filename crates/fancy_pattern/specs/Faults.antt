-- Where a fault is: the first token, or the end, that no pattern goes on with. The names are those of the whole
-- pattern.
use Rattle.std.specs.Prelude.{◌≡◌, List, [], ◌∷◌, ◌++◌, Option, Some, None}
use Rattle.fancy_meaning.specs.Tree.{Tree}
use Rattle.fancy_tokens.specs.declared.error.ErrorKind.{ErrorKind}
use Rattle.fancy_tokens.specs.declared.error.ErrorKind.TheVariants.{InvalidGroupNameBackref, TargetNotRepeatable, UnclosedOpenParen}
use Rattle.fancy_tokens.specs.declared.error.Fault.{Fault}
use Rattle.fancy_tokens.specs.Tokens.{Reference, Opening, If, Token, Refer, Open, Broken, Placed}
use Rattle.fancy_pattern.specs.Grammar.{Names, first_gives, reference, SpellsAlternatives}

-- what cannot be read says why, and what is else at fault is a quantifier
abbrev pub kind_at : Token → ErrorKind
kind_at (Broken found) = found
kind_at t = TargetNotRepeatable

-- the next token cannot stand there, or a parenthesis is not closed at the end
abbrev pub misfit : List Placed → Fault
misfit [] = record { left = 0; kind = UnclosedOpenParen }
misfit (p ∷ ps) = record { left = p.left; kind = kind_at p.token }

abbrev pub asked_by : Opening → Option Reference
asked_by (If r) = Some r
asked_by o = None

-- what names a group
abbrev pub referring : Token → Option Reference
referring (Refer r) = Some r
referring (Open o) = asked_by o
referring t = None

-- the fault is at the next token, or at the name in it: several groups have that name, so it cannot be called, or too
-- many, so it cannot be referred to
pub data IsPlace (names : Names) (f : Fault) (x : List Placed) : Type 0 where
  at_token : f ≡ misfit x → IsPlace names f x
  at_name : (r : Reference) → first_gives referring x ≡ Some r → reference names r ≡ None →
      f ≡ record { left = r.left; kind = InvalidGroupNameBackref } →
      IsPlace names f x

-- a pattern begins with these tokens
abbrev pub CanBegin : Names → List Placed → Type 0
CanBegin names ts = (more : List Placed) × (e : Tree) × SpellsAlternatives names (ts ++ more) [] e

-- the first token that cannot stand there, or the end of a pattern that ends too early
pub data IsFaultAt (names : Names) (ts : List Placed) (f : Fault) : Type 0 where
  stray : (before after : List Placed) (p : Placed) →
      ts ≡ before ++ p ∷ after →
      IsPlace names f (p ∷ after) →
      CanBegin names before →
      (CanBegin names (before ++ p ∷ []) → ⊥) →
      IsFaultAt names ts f
  early : f ≡ misfit [] → CanBegin names ts → ((e : Tree) → SpellsAlternatives names ts [] e → ⊥) → IsFaultAt names ts f
