-- The grammar: which tokens spell which tree, as a relation between the tokens before it and those behind. Names are
-- resolved by the groups that have them, each with its number.
use Rattle.std.specs.Prelude.{◌≡◌, ℕ, ℤ, ◌-◌, ◌^◌, Bool, true, false, not, List, [], ◌∷◌, ◌++◌, length, map, reverse, filter, encode_utf8_all, Option, Some, None, if◌then◌else◌, nat_le}
use Rattle.fancy_meaning.specs.Tree as tree
use Rattle.fancy_meaning.specs.Tree.{Tree, trees}
use Rattle.fancy_expr.specs.Views.{look_of, bound_of}
use Rattle.fancy_tokens.specs.declared.tokens.Enclosing.{Enclosing}
use Rattle.fancy_tokens.specs.declared.tokens.Enclosing.TheVariants as enclosing
use Rattle.fancy_tokens.specs.declared.tokens.Naming.{Naming}
use Rattle.fancy_tokens.specs.declared.tokens.Naming.TheVariants as naming
use Rattle.fancy_tokens.specs.declared.tokens.Suffix.{Suffix}
use Rattle.fancy_tokens.specs.declared.tokens.Suffix.TheVariants.{Turned, Possessive}
use Rattle.fancy_tokens.specs.declared.tokens.Quantifier.{Quantifier}
use Rattle.fancy_tokens.specs.declared.tokens.Quantifier.TheVariants.{Star, Plus, Question, Counts}
use Rattle.fancy_tokens.specs.Tokens.{Target, Name, Number, Nowhere, Reference, Opening, Around, Group, AbsentBar, If, IfPattern, IfLook, Token, Node, Refer, FlagsItem, Open, Bar, Close, Quantified, ClassOpen, ClassText, ClassClose, Placed}
use Rattle.fancy_pattern.specs.Naming.{numbers_of}

-- the names of groups, each with a number
abbrev pub Names : Type 0
Names = List (List ℕ × ℕ)

-- ---- references

-- what is done with a group
abbrev pub named : Naming → Option ℤ → ℕ → Tree
named (naming.Backref casei) None g = tree.Backref g casei
named (naming.Backref casei) (Some l) g = tree.BackrefWithLevel g l casei
named naming.Exists level g = tree.BackrefExists g level
named naming.Call level g = tree.SubroutineCall g

-- a name or a number without a group
abbrev pub unresolved : Naming → Tree
unresolved (naming.Backref casei) = tree.AstNode tree.UnresolvedOther
unresolved naming.Exists = tree.AstNode tree.UnresolvedOther
unresolved naming.Call = tree.AstNode tree.UnresolvedCall

-- so many groups may have a name that is referred to
abbrev pub most_namesakes : ℕ
most_namesakes = 100

-- a name that several groups have: each of them, the last first, unless they are too many; it cannot be called
abbrev pub several : Naming → Option ℤ → List ℕ → Option Tree
several naming.Call level gs = None
several n level gs =
    if nat_le (length gs) most_namesakes
    then Some (tree.Alt (trees (map (named n level) (reverse gs))))
    else None

-- by the groups that have the name
abbrev pub by_groups : Naming → Option ℤ → List ℕ → Option Tree
by_groups n level [] = Some (unresolved n)
by_groups n level (g ∷ []) = Some (named n level g)
by_groups n level (g ∷ h ∷ gs) = several n level (g ∷ h ∷ gs)

abbrev pub by_target : Names → Naming → Option ℤ → Target → Option Tree
by_target names n level (Name name) = by_groups n level (numbers_of names (encode_utf8_all name))
by_target names n level (Number g) = Some (named n level g)
by_target names n level Nowhere = Some (unresolved n)

abbrev pub reference : Names → Reference → Option Tree
reference names r = by_target names r.naming r.level r.target

-- ---- single tokens

-- an atom that is one token; a flags item is nothing
abbrev pub node_of : Names → Token → Option Tree
node_of names (Node e) = Some e
node_of names (Refer r) = reference names r
node_of names FlagsItem = Some tree.Empty
node_of names t = None

abbrev pub opening : Token → Option Opening
opening (Open o) = Some o
opening t = None

abbrev pub bar : Token → Option (Unit {0})
bar Bar = Some tt
bar t = None

abbrev pub closing : Token → Option (Unit {0})
closing Close = Some tt
closing t = None

abbrev pub class_open : Token → Option Bool
class_open (ClassOpen casei) = Some casei
class_open t = None

abbrev pub class_text : Token → Option (List ℕ)
class_text (ClassText text) = Some text
class_text t = None

abbrev pub class_close : Token → Option (Unit {0})
class_close ClassClose = Some tt
class_close t = None

abbrev pub quantifier : Token → Option (Quantifier × Bool)
quantifier (Quantified q greedy) = Some (q, greedy)
quantifier t = None

-- what a `?` or a `+` behind a quantifier makes of it
abbrev pub suffix_of : Quantifier → Option Suffix
suffix_of Question = Some Turned
suffix_of Plus = Some Possessive
suffix_of Star = None
suffix_of (Counts lo hi) = None

abbrev pub suffix : Token → Option Suffix
suffix (Quantified q greedy) = suffix_of q
suffix t = None

-- between x and y stands one token, which gives v
pub record Takes {V : Type 0} (gives : Token → Option V) (x : List Placed) (v : V) (y : List Placed) : Type 0 where
  pub first : Placed
  pub tokens : x ≡ first ∷ y
  pub is : gives first.token ≡ Some v

-- what the next token gives
abbrev pub first_gives : {V : Type 0} → (Token → Option V) → List Placed → Option V
first_gives gives [] = None
first_gives gives (p ∷ ps) = gives p.token

abbrev pub gives_some : {V : Type 0} → Option V → Bool
gives_some None = false
gives_some (Some v) = true

abbrev pub is_at : {V : Type 0} → (Token → Option V) → List Placed → Bool
is_at gives ps = gives_some (first_gives gives ps)

-- a branch ends before a bar, a closing parenthesis, and the end
abbrev pub is_branch_end : List Placed → Bool
is_branch_end [] = true
is_branch_end (p ∷ ps) = elim p.token [ Bar ↦ true | Close ↦ true | t ↦ false ]

-- ---- trees

-- a quantifier may stand behind every node but these
abbrev pub is_repeatable : Tree → Bool
is_repeatable tree.Empty = false
is_repeatable (tree.Assert within a) = false
is_repeatable (tree.LookAround look e) = false
is_repeatable tree.KeepOut = false
is_repeatable tree.ContinueFromPreviousMatchEnd = false
is_repeatable e = true

abbrev pub lo_of : Quantifier → ℕ
lo_of Star = 0
lo_of Plus = 1
lo_of Question = 0
lo_of (Counts lo hi) = lo

-- the largest number means that there is no bound
abbrev pub hi_of : Quantifier → ℕ
hi_of Star = 2 ^ 64 - 1
hi_of Plus = 2 ^ 64 - 1
hi_of Question = 1
hi_of (Counts lo hi) = hi

abbrev pub repeated : Quantifier → Bool → Tree → Tree
repeated q greedy e = tree.Repeat (lo_of q) (bound_of (hi_of q)) greedy e

-- with what follows the quantifier
abbrev pub suffixed : Quantifier → Bool → Option Suffix → Tree → Tree
suffixed q greedy None e = repeated q greedy e
suffixed q greedy (Some Turned) e = repeated q (not greedy) e
suffixed q greedy (Some Possessive) e = tree.AtomicGroup (repeated q greedy e)

-- the class that is handed on
abbrev pub class_of : List ℕ → Bool → Tree
class_of text casei = tree.Delegate (encode_utf8_all (91 ∷ text ++ 93 ∷ [])) casei

abbrev pub enclosed : Enclosing → Tree → Tree
enclosed enclosing.Plain e = e
enclosed enclosing.Atomic e = tree.AtomicGroup e
enclosed enclosing.Define e = tree.DefineGroup e
enclosed (enclosing.Look l) e = tree.LookAround (look_of l) e
enclosed enclosing.AbsentRepeater e = tree.AbsentRepeater e

abbrev pub is_empty : Tree → Bool
is_empty tree.Empty = true
is_empty e = false

-- no piece is nothing, one is itself, more are a sequence; pieces that are nothing are left out
abbrev pub joined : List Tree → Tree
joined [] = tree.Empty
joined (e ∷ []) = e
joined (e ∷ f ∷ es) = tree.Concat (trees (e ∷ f ∷ es))

abbrev pub branch_of : List Tree → Tree
branch_of pieces = joined (filter (λ e. not (is_empty e)) pieces)

-- one branch is itself, more are alternatives
abbrev pub alternated : List Tree → Tree
alternated [] = tree.Empty
alternated (e ∷ []) = e
alternated (e ∷ f ∷ es) = tree.Alt (trees (e ∷ f ∷ es))

-- ---- the rules

-- what a class is made of, up to its end
pub data SpellsClass : List Placed → List Placed → List ℕ → Type 0 where
  class_end : {x y : List Placed} → Takes class_close x tt y → SpellsClass x y []
  class_piece : {x y z : List Placed} {piece text : List ℕ} → Takes class_text x piece y → SpellsClass y z text →
      SpellsClass x z (piece ++ text)

-- what may follow a quantifier
pub data SpellsSuffix : List Placed → List Placed → Option Suffix → Type 0 where
  no_suffix : {x : List Placed} → is_at suffix x ≡ false → SpellsSuffix x x None
  a_suffix : {x y : List Placed} {s : Suffix} → Takes suffix x s y → SpellsSuffix x y (Some s)

mutual
  -- an atom
  pub data SpellsAtom (names : Names) : List Placed → List Placed → Tree → Type 0 where
    node : {x y : List Placed} {e : Tree} → Takes (node_of names) x e y → SpellsAtom names x y e
    class : {x y z : List Placed} {casei : Bool} {text : List ℕ} → Takes class_open x casei y → SpellsClass y z text →
        SpellsAtom names x z (class_of text casei)
    opened : {x y z : List Placed} {o : Opening} {e : Tree} → Takes opening x o y → SpellsOpened names o y z e →
        SpellsAtom names x z e

  -- what follows an opening token, up to its closing parenthesis
  pub data SpellsOpened (names : Names) : Opening → List Placed → List Placed → Tree → Type 0 where
    around : {x y z : List Placed} {f : Enclosing} {e : Tree} → SpellsAlternatives names x y e → Takes closing y tt z →
        SpellsOpened names (Around f) x z (enclosed f e)
    group : {x y z : List Placed} {number : ℕ} {name : Option (List ℕ)} {e : Tree} →
        SpellsAlternatives names x y e →
        Takes closing y tt z →
        SpellsOpened names (Group number name) x z (tree.Group 0 e)
    -- `(?~|absent)`
    stopper : {x y z : List Placed} {e : Tree} → SpellsBranch names x y e → Takes closing y tt z →
        SpellsOpened names AbsentBar x z (tree.AbsentStopper e)
    -- `(?~|absent|exp)`
    expression : {x y z u v : List Placed} {a e : Tree} →
        SpellsBranch names x y a →
        Takes bar y tt z →
        SpellsAlternatives names z u e →
        Takes closing u tt v →
        SpellsOpened names AbsentBar x v (tree.AbsentExpression a e)
    -- `(?(1))`
    asked : {x y : List Placed} {r : Reference} {c : Tree} → reference names r ≡ Some c → Takes closing x tt y →
        SpellsOpened names (If r) x y c
    if_group : {x y : List Placed} {r : Reference} {c e : Tree} →
        reference names r ≡ Some c →
        is_at closing x ≡ false →
        SpellsBodies names c x y e →
        SpellsOpened names (If r) x y e
    if_pattern : {x y z u : List Placed} {c e : Tree} →
        SpellsAlternatives names x y c →
        Takes closing y tt z →
        SpellsBodies names c z u e →
        SpellsOpened names IfPattern x u e
    if_look : {x y z u : List Placed} {l : tree.Look} {c e : Tree} →
        SpellsAlternatives names x y c →
        Takes closing y tt z →
        SpellsBodies names (tree.LookAround l c) z u e →
        SpellsOpened names (IfLook l) x u e

  -- the true branch of a condition, and after a bar the false one, up to the closing parenthesis
  pub data SpellsBodies (names : Names) : Tree → List Placed → List Placed → Tree → Type 0 where
    one_body : {x y z : List Placed} {c t : Tree} → SpellsBranch names x y t → Takes closing y tt z →
        SpellsBodies names c x z (tree.Conditional c t tree.Empty)
    two_bodies : {x y z u v : List Placed} {c t f : Tree} →
        SpellsBranch names x y t →
        Takes bar y tt z →
        SpellsAlternatives names z u f →
        Takes closing u tt v →
        SpellsBodies names c x v (tree.Conditional c t f)

  -- an atom, or one with a quantifier
  pub data SpellsPiece (names : Names) : List Placed → List Placed → Tree → Type 0 where
    plain : {x y : List Placed} {e : Tree} → SpellsAtom names x y e → is_at quantifier y ≡ false →
        SpellsPiece names x y e
    quantified : {x y z u : List Placed} {q : Quantifier × Bool} {s : Option Suffix} {e : Tree} →
        SpellsAtom names x y e →
        is_repeatable e ≡ true →
        Takes quantifier y q z →
        SpellsSuffix z u s →
        SpellsPiece names x u (suffixed q.0 q.1 s e)

  -- the pieces of a branch
  pub data SpellsPieces (names : Names) : List Placed → List Placed → List Tree → Type 0 where
    no_piece : {x : List Placed} → is_branch_end x ≡ true → SpellsPieces names x x []
    piece : {x y z : List Placed} {e : Tree} {es : List Tree} →
        is_branch_end x ≡ false →
        SpellsPiece names x y e →
        SpellsPieces names y z es →
        SpellsPieces names x z (e ∷ es)

  pub data SpellsBranch (names : Names) : List Placed → List Placed → Tree → Type 0 where
    branch : {x y : List Placed} {es : List Tree} → SpellsPieces names x y es → SpellsBranch names x y (branch_of es)

  -- further branches, each after a bar
  pub data SpellsBars (names : Names) : List Placed → List Placed → List Tree → Type 0 where
    no_bar : {x : List Placed} → is_at bar x ≡ false → SpellsBars names x x []
    barred : {x y z u : List Placed} {e : Tree} {es : List Tree} →
        Takes bar x tt y →
        SpellsBranch names y z e →
        SpellsBars names z u es →
        SpellsBars names x u (e ∷ es)

  pub data SpellsAlternatives (names : Names) : List Placed → List Placed → Tree → Type 0 where
    branches : {x y z : List Placed} {e : Tree} {es : List Tree} → SpellsBranch names x y e → SpellsBars names y z es →
        SpellsAlternatives names x z (alternated (e ∷ es))
