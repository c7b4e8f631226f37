-- Which literals the ways of a node take, by cases of the node.
use Rattle.std.specs.Prelude.{◌≡◌, ◌⊎◌, ◌<◌, ℕ, Bool, true, false, IfSome, List, [], ◌∷◌, ◌++◌, map, encode_utf8, encode_utf8_all, string_bytes}
use Rattle.fancy_meaning.specs.Tree.{Tree, Trees, none, more, trees, Literal, Concat, Group, Repeat, AtomicGroup, LookAround, LookAhead, LookBehind}
use Rattle.fancy_literals.specs.declared.required.Literals.{Literals}

-- a character, in one case alone
abbrev pub literal : ℕ → Tree
literal c = Literal c false

-- the nodes begin with literals of these characters
abbrev pub BeginWith : List ℕ → Trees → Type 0
BeginWith [] es = Unit {0}
BeginWith (c ∷ cs) none = ⊥
BeginWith (c ∷ cs) (more e es) = (e ≡ literal c) × BeginWith cs es

-- literals in a row at the beginning are the piece
pub record BeginWithPiece (piece : List ℕ) (es : Trees) : Type 0 where
  pub row : List ℕ
  pub begins : BeginWith row es
  pub spelled : encode_utf8_all row ≡ piece

-- where what look-behinds take counts, or not
module _ (behind : Bool) where
  abbrev mutual
    pub Takes : (piece : List ℕ) → Tree → Type 0
    Takes piece (Literal c casei) = (casei ≡ false) × (encode_utf8 c ≡ piece)
    Takes piece (Concat es) = AmongTaken piece es
    Takes piece (Group g e) = Takes piece e
    Takes piece (AtomicGroup e) = Takes piece e
    Takes piece (Repeat lo hi greedy e) = (0 < lo) × Takes piece e
    Takes piece (LookAround LookAhead e) = Takes piece e
    Takes piece (LookAround LookBehind e) = (behind ≡ true) × Takes piece e
    Takes piece e = ⊥

    -- from some node on literals are the piece, or a node takes it
    pub AmongTaken : (piece : List ℕ) → Trees → Type 0
    AmongTaken piece none = ⊥
    AmongTaken piece (more e es) = BeginWithPiece piece (more e es) ⊎ (Takes piece e ⊎ AmongTaken piece es)

  -- so it is of these nodes in order
  abbrev pub IsTaken : (piece : List ℕ) → List Tree → Type 0
  IsTaken piece es = AmongTaken piece (trees es)

-- literals in a row at the end are the piece
pub record EndWith (piece : List ℕ) (es : List Tree) : Type 0 where
  pub before : List Tree
  pub row : List ℕ
  pub split : es ≡ before ++ map literal row
  pub spelled : encode_utf8_all row ≡ piece

-- The literals in a row at the end are these, and each way of the nodes takes the longest literal, if there is one.
pub record AreRead (behind : Bool) (read : Literals) (es : List Tree) : Type 0 where
  pub ends : EndWith (string_bytes read.row) es
  pub taken : IfSome read.longest (λ s. IsTaken behind (string_bytes s) es)
