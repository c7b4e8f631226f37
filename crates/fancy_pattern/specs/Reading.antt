-- The contracts of the reader's calls: what each reads.
use Rattle.std.specs.Prelude.{◌≡◌, ℕ, Bool, true, false, not, List, [], ◌∷◌, ◌++◌, map, filter, IfOk, Option, Some, if◌then◌else◌, Result}
use Rattle.fancy_meaning.specs.Tree.{Tree}
use Rattle.fancy_expr.specs.Each.{Each}
use Rattle.fancy_expr.specs.Exprs.{exprs}
use Rattle.fancy_expr.specs.Sound.{IsOneChar}
use Rattle.fancy_expr.specs.Views.{tree_of}
use Rattle.fancy_expr.specs.declared.expr.Expr.{Expr}
use Rattle.fancy_pattern.specs.declared.failure.Failure.{Failure}
use Rattle.fancy_pattern.specs.declared.reader.Reader.{Reader}
use Rattle.fancy_tokens.specs.declared.tokens.Quantifier.{Quantifier}
use Rattle.fancy_tokens.specs.declared.tokens.Suffix.{Suffix}
use Rattle.fancy_tokens.specs.Tokens.{Token, Placed}
use Rattle.fancy_pattern.specs.Grammar.{Names, first_gives, is_at, is_branch_end, is_empty, is_repeatable, quantifier, closing, class_of, suffixed, alternated, node_of, Takes, SpellsSuffix, SpellsClass, SpellsPiece, SpellsBars, SpellsAlternatives}
use Rattle.fancy_tokens.specs.PatternViews.{placed_of}

-- the tokens that are left
abbrev pub point_of : Reader → List Placed
point_of r = map placed_of r.rest.now

abbrev pub next_token : List Placed → Option Token
next_token ps = first_gives (λ t. Some t) ps

-- each literal is one character
abbrev pub OneCharEach : Expr → Type 0
OneCharEach e = Each IsOneChar (exprs e)

-- one token was passed
pub record Skips (old new : Reader) : Type 0 where
  pub first : Placed
  pub tokens : point_of old ≡ first ∷ point_of new

-- a piece that is something
abbrev pub some_of : Tree → List Tree
some_of e = if is_empty e then [] else e ∷ []

-- a tree was read
abbrev pub ReadsTree : (List Placed → List Placed → Tree → Type 0) → Reader → Reader → Result Expr Failure → Type 0
ReadsTree spells old new r = IfOk r (λ e. spells (point_of old) (point_of new) (tree_of e))

-- on a stack of nodes there is one more, which has this tree
pub record Adds (e : Tree) (below all : List Expr) : Type 0 where
  pub node : Expr
  pub added : all ≡ below ++ node ∷ []
  pub made : tree_of node ≡ e
  pub one_char : OneCharEach node

-- the same, unless the tree is nothing
pub record AddsSome (e : Tree) (below all : List Expr) : Type 0 where
  pub added : map tree_of all ≡ map tree_of below ++ some_of e
  pub one_char : Each OneCharEach below → Each OneCharEach all

-- the node with this tree was taken off the stack
pub record TakesOff (e : Tree) (below left : List Expr) (node : Expr) : Type 0 where
  pub made : tree_of node ≡ e
  pub one_char : OneCharEach node
  pub rest : left ≡ below

-- a tree was read, and is on top of the stack
pub record Pushes (spells : List Placed → List Placed → Tree → Type 0) (old new : Reader)
    (below all : List Expr) : Type 0 where
  pub read : Tree
  pub adds : Adds read below all
  pub spelled : spells (point_of old) (point_of new) read

-- a tree was read, and the stack is as it was
pub record Boxes (spells : List Placed → List Placed → Tree → Type 0) (old new : Reader)
    (below left : List Expr) (node : Expr) : Type 0 where
  pub spelled : spells (point_of old) (point_of new) (tree_of node)
  pub one_char : OneCharEach node
  pub rest : left ≡ below

-- alternatives were read, and the closing parenthesis behind them
abbrev pub SpellsLast : Names → List Placed → List Placed → Tree → Type 0
SpellsLast names x z e = (y : List Placed) × SpellsAlternatives names x y e × Takes closing y tt z

-- behind this branch, further ones
abbrev pub SpellsMore : Names → Tree → List Placed → List Placed → Tree → Type 0
SpellsMore names first x y e = (es : List Tree) × SpellsBars names x y es × (e ≡ alternated (first ∷ es))

-- the rest of a class
abbrev pub SpellsRest : Bool → List Placed → List Placed → Tree → Type 0
SpellsRest casei x y e = (text : List ℕ) × SpellsClass x y text × (e ≡ class_of text casei)

-- an atom of one token
abbrev pub SpellsNode : Names → List Placed → List Placed → Tree → Type 0
SpellsNode names x y e = Takes (node_of names) x e y

-- behind an atom stands no quantifier, or one that makes this of it
pub data Quantifies (e : Tree) : List Placed → List Placed → Tree → Type 0 where
  alone : {x : List Placed} → is_at quantifier x ≡ false → Quantifies e x x e
  by : {x y z : List Placed} {q : Quantifier × Bool} {s : Option Suffix} →
      is_repeatable e ≡ true →
      Takes quantifier x q y →
      SpellsSuffix y z s →
      Quantifies e x z (suffixed q.0 q.1 s e)

-- a piece that is something
abbrev pub SpellsSome : Names → List Placed → List Placed → Tree → Type 0
SpellsSome names x y e = SpellsPiece names x y e × (is_empty e ≡ false)

-- pieces one after another, none of which begins where a branch ends
pub data Row (names : Names) : List Placed → List Placed → List Tree → Type 0 where
  none_read : {x : List Placed} → Row names x x []
  one_read : {x y z : List Placed} {e : Tree} {es : List Tree} →
      is_branch_end x ≡ false →
      SpellsPiece names x y e →
      Row names y z es →
      Row names x z (e ∷ es)

-- pieces were read, and those that are something are on top of the stack
pub record PushesRow (names : Names) (old new : Reader) (below all : List Expr) : Type 0 where
  pub read : List Tree
  pub row : Row names (point_of old) (point_of new) read
  pub added : map tree_of all ≡ map tree_of below ++ filter (λ e. not (is_empty e)) read
  pub one_char : Each OneCharEach below → Each OneCharEach all
