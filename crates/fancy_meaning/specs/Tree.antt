-- The trees that are searched for, as plain values.
use Rattle.std.specs.Prelude.{ℕ, ℤ, Bool, List, [], ◌∷◌, Option}

-- `crlf`: a CR before an LF belongs to the end of its line
pub data Assertion : Type 0 where
  StartText EndText : Assertion
  EndTextIgnoreTrailingNewlines StartLine StartLineOniguruma EndLine : (crlf : Bool) → Assertion
  LeftWordBoundary RightWordBoundary LeftWordHalfBoundary RightWordHalfBoundary : Assertion
  WordBoundary NotWordBoundary : Assertion

pub data Look : Type 0 where
  LookAhead LookAheadNeg LookBehind LookBehindNeg : Look

pub data Verb : Type 0 where
  Fail Accept Commit Skip Prune : Verb

-- the innermost look-around around a node, by its direction
pub data Within : Type 0 where
  NoLook InLookAhead InLookBehind : Within

-- a name, or a number that goes by the place, that was not resolved
pub data Unresolved : Type 0 where
  UnresolvedCall UnresolvedOther : Unresolved

mutual
  -- A group carries its number and an assertion the look-around that it stands in: `Numbering` writes both.
  pub data Tree : Type 0 where
    Empty KeepOut ContinueFromPreviousMatchEnd : Tree
    Any : (newline crlf : Bool) → Tree
    Assert : Within → Assertion → Tree
    GeneralNewline : (unicode : Bool) → Tree
    Literal : (char : ℕ) (casei : Bool) → Tree
    LiteralBytes : (chars : List ℕ) → Tree
    -- a class of characters, by its text
    Delegate : (inner : List ℕ) (casei : Bool) → Tree
    Concat Alt : Trees → Tree
    Group : (number : ℕ) → Tree → Tree
    LookAround : Look → Tree → Tree
    -- without `hi` there is no bound
    Repeat : (lo : ℕ) (hi : Option ℕ) (greedy : Bool) → Tree → Tree
    Backref : (group : ℕ) (casei : Bool) → Tree
    BackrefWithLevel : (group : ℕ) (level : ℤ) (casei : Bool) → Tree
    BackrefExists : (group : ℕ) (level : Option ℤ) → Tree
    AtomicGroup DefineGroup : Tree → Tree
    Control : Verb → Tree
    Conditional : (condition true_branch false_branch : Tree) → Tree
    -- of a group, or with 0 of the whole tree
    SubroutineCall : (group : ℕ) → Tree
    AbsentRepeater AbsentStopper : Tree → Tree
    AbsentExpression : (absent exp : Tree) → Tree
    AbsentClear : Tree
    AstNode : Unresolved → Tree

  pub data Trees : Type 0 where
    none : Trees
    more : Tree → Trees → Trees

-- the list as trees
abbrev pub trees : List Tree → Trees
trees [] = none
trees (e ∷ es) = more e (trees es)

abbrev pub children : Trees → List Tree
children none = []
children (more e es) = e ∷ children es

-- a node's children, in order
abbrev pub parts : Tree → Trees
parts (Concat es) = es
parts (Alt es) = es
parts (Group g e) = more e none
parts (LookAround look e) = more e none
parts (Repeat lo hi greedy e) = more e none
parts (AtomicGroup e) = more e none
parts (DefineGroup e) = more e none
parts (Conditional c t f) = more c (more t (more f none))
parts (AbsentRepeater e) = more e none
parts (AbsentStopper e) = more e none
parts (AbsentExpression a e) = more a (more e none)
parts e = none
