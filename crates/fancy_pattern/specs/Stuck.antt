-- Where a call of the reader is stuck: at a token that cannot stand there, whatever follows it.
use Rattle.std.specs.Prelude.{◌≡◌, ℕ, Bool, true, not, List, [], ◌∷◌, ◌++◌, length, Option, None}
use Rattle.fancy_meaning.specs.Tree.{Tree}
use Rattle.fancy_tokens.specs.declared.error.ErrorKind.TheVariants.{InvalidGroupNameBackref}
use Rattle.fancy_tokens.specs.declared.error.Fault.{Fault}
use Rattle.fancy_pattern.specs.declared.failure.Failure.{Failure}
use Rattle.fancy_pattern.specs.declared.failure.Failure.TheVariants as failure
use Rattle.fancy_tokens.specs.Tokens.{Reference, Opening, If, Token, Refer, Placed}
use Rattle.fancy_pattern.specs.Grammar.{Names, is_at, gives_some, quantifier, closing, reference, SpellsOpened}
use Rattle.fancy_pattern.specs.Faults.{misfit, IsPlace}

-- y is what is left of x
pub data Within (y : List Placed) : List Placed → Type 0 where
  whole : Within y y
  past : {x : List Placed} (p : Placed) → Within y x → Within y (p ∷ x)

-- before r and before r' stands the same
pub data Alike (r r' : List Placed) : List Placed → List Placed → Type 0 where
  here : Alike r r' r r'
  there : {x x' : List Placed} (p : Placed) → Alike r r' x x' → Alike r r' (p ∷ x) (p ∷ x')

-- both begin with the same token, or both are at the end
pub data SameFirst : List Placed → List Placed → Type 0 where
  both_ended : SameFirst [] []
  same_token : {p : Placed} {x y : List Placed} → SameFirst (p ∷ x) (p ∷ y)

-- at a closing parenthesis or the end
abbrev pub is_end : List Placed → Bool
is_end [] = true
is_end (p ∷ ps) = gives_some (closing p.token)

-- at no quantifier
abbrev pub is_calm : List Placed → Bool
is_calm ps = not (is_at quantifier ps)

abbrev pub anything : List Placed → Bool
anything ps = true

-- From x on nothing of this kind is spelled: the first token of `rest` cannot stand, whatever follows it, while what
-- stands before it is spelled with these in place of the rest.
pub record Stuck {V : Type 0} (names : Names) (starts : List Placed → Bool)
    (spells : List Placed → List Placed → V → Type 0) (x : List Placed) (f : Fault) : Type 0 where
  pub rest : List Placed
  pub within : Within rest x
  pub place : IsPlace names f rest
  pub never : (rest' x' z : List Placed) (v : V) → SameFirst rest rest' → Alike rest rest' x x' → spells x' z v → ⊥
  pub more : List Placed
  pub goes : (x' z : List Placed) → is_end z ≡ true → Alike rest (more ++ z) x x' → (v : V) × spells x' z v
  pub fits : (z : List Placed) → is_end z ≡ true → length rest ≡ length x → starts (more ++ z) ≡ true

abbrev pub Fails : {V : Type 0} → Names → (List Placed → Bool) → (List Placed → List Placed → V → Type 0) →
    List Placed → Failure → Type 0
Fails names starts spells x (failure.Fault f) = Stuck names starts spells x f
Fails names starts spells x failure.Memory = Unit {0}

-- the next token cannot stand
abbrev pub IsMisfit : List Placed → Failure → Type 0
IsMisfit x (failure.Fault f) = f ≡ misfit x
IsMisfit x failure.Memory = ⊥

-- there is no node for a name that begins here
abbrev pub NoNode : Option Tree → ℕ → Failure → Type 0
NoNode found left (failure.Fault f) = (found ≡ None) × (f ≡ record { left = left; kind = InvalidGroupNameBackref })
NoNode found left failure.Memory = Unit {0}

-- the same for a token
abbrev pub NoAtom : Names → Token → Failure → Type 0
NoAtom names t (failure.Fault f) =
    (r : Reference) × (t ≡ Refer r) × (reference names r ≡ None)
    × (f ≡ record { left = r.left; kind = InvalidGroupNameBackref })
NoAtom names t failure.Memory = Unit {0}

-- behind an opening token nothing is spelled, or there is no node for the group that it asks for
pub data OpenedFault (names : Names) (o : Opening) (x : List Placed) (f : Fault) : Type 0 where
  behind : Stuck names anything (SpellsOpened names o) x f → OpenedFault names o x f
  unnamed : (r : Reference) → o ≡ If r → reference names r ≡ None →
      f ≡ record { left = r.left; kind = InvalidGroupNameBackref } →
      OpenedFault names o x f

abbrev pub FailsOpened : Names → Opening → List Placed → Failure → Type 0
FailsOpened names o x (failure.Fault f) = OpenedFault names o x f
FailsOpened names o x failure.Memory = Unit {0}
