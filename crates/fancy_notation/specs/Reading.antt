-- The contracts of the reader's calls: what each reads, or where it fails.
use Rattle.std.specs.Prelude.{◌≡◌, ℕ, Bool, List, map, [], ◌∷◌, ◌++◌, Option, Some, None, Result, Ok, Err}
use Rattle.std.specs.Global.{Box}
use Rattle.fancy_meaning.specs.Tree.{Tree}
use Rattle.fancy_expr.specs.Views.{tree_of}
use Rattle.fancy_expr.specs.Exprs.{exprs}
use Rattle.fancy_expr.specs.Each.{Each}
use Rattle.fancy_expr.specs.Sound.{IsOneChar}
use Rattle.fancy_expr.specs.declared.expr.Expr.{Expr}
use Rattle.fancy_notation.specs.declared.forms.Form.{Form}
use Rattle.fancy_expr.specs.declared.error.Error.{Error}
use Rattle.fancy_expr.specs.declared.error.Error.TheVariants.{TreeFault, Memory}
use Rattle.fancy_notation.specs.declared.reader.Reader.{Reader}
use Rattle.fancy_notation.specs.Tokens.{Token, Placed}
use Rattle.fancy_notation.specs.Grammar.{Point, Takes, Spells, SpellsParts, closing, in_word, head_word, quoted, parts_of_text}
use Rattle.fancy_notation.specs.declared.lexer.Lexer.{Lexer}
use Rattle.fancy_notation.specs.Lexing.{Step}
use Rattle.fancy_notation.specs.Faults.{IsFaultAt}
use Rattle.fancy_notation.specs.Misfit.{Want, misfit}
use Rattle.fancy_notation.specs.NotationViews.{point_of, lexing_of, all_placed}

-- where the next token begins, or the end of the text
abbrev pub place : ℕ → List Placed → ℕ
place end [] = end
place end (p ∷ ps) = p.at

-- what the next token gives
abbrev pub first_gives : {V : Type 0} → (Token → Option V) → List Placed → Option V
first_gives gives [] = None
first_gives gives (p ∷ ps) = gives p.token

abbrev pub next_token : List Placed → Option Token
next_token ps = first_gives (λ t. Some t) ps

abbrev pub next_word : List Placed → Option (List ℕ)
next_word ps = first_gives (in_word (λ w. Some w)) ps

-- one token was passed, and nothing else changed
pub record Skips (old new : Reader) : Type 0 where
  pub first : Placed
  pub tokens : (point_of old).tokens ≡ first ∷ (point_of new).tokens
  pub groups : new.groups ≡ old.groups
  pub end : new.end ≡ old.end

-- a fault at the next token
abbrev pub IsFaultHere : Reader → Error → Type 0
IsFaultHere r e = e ≡ TreeFault (place r.end (point_of r).tokens)

-- what was found is answered, and its token passed; or nothing was found, or no token is left
abbrev pub PassesFound : {V : Type 0} → Option V → Reader → Reader → Result V Error → Type 0
PassesFound found old new (Ok v) = (found ≡ Some v) × Skips old new
PassesFound found old new (Err e) = IsFaultHere old e × ((v : _) → found ≡ Some v → (point_of old).tokens ≡ [])

-- what the next token gives is answered, and the token passed; or it gives nothing
abbrev pub ReadsToken : {V W : Type 0} → (Token → Option W) → (V → W) → Reader → Reader → Result V Error → Type 0
ReadsToken gives view old new (Ok v) = Takes gives (point_of old) (view v) (point_of new) × (new.end ≡ old.end)
ReadsToken gives view old new (Err e) = IsFaultHere old e × (first_gives gives (point_of old).tokens ≡ None)

-- the word of a form is passed, and a group counted; or it is no such word, or a group too many
abbrev pub ReadsHead : Reader → Reader → Result Form Error → Type 0
ReadsHead old new (Ok f) =
    (after : Point) × Takes (in_word (head_word old.groups)) (point_of old) (f, new.groups) after
    × ((point_of new).tokens ≡ after.tokens) × (new.end ≡ old.end)
ReadsHead old new (Err e) =
    IsFaultHere old e × (first_gives (in_word (head_word old.groups)) (point_of old).tokens ≡ None)

-- what is wanted is not there, in the first token that cannot stand
abbrev pub Fails : List Want → Reader → Error → Type 0
Fails ws old (TreeFault at) =
    (more : List Want) → misfit old.end (point_of old).tokens old.groups (ws ++ more) ≡ Some at
Fails ws old Memory = Unit {0}
Fails ws old e = ⊥

-- what is wanted was read, or it fails
abbrev pub Reads : {V : Type 0} → List Want → (V → Point → Point → Type 0) → Reader → Reader → Result V Error → Type 0
Reads ws spells old new (Ok v) = spells v (point_of old) (point_of new) × (new.end ≡ old.end)
Reads ws spells old new (Err e) = Fails ws old e

-- each literal is one character
abbrev pub OneCharEach : Expr → Type 0
OneCharEach e = Each IsOneChar (exprs e)

-- the same for a tree
abbrev pub ReadsTree : List Want → (Tree → Point → Point → Type 0) → Reader → Reader → Result Expr Error → Type 0
ReadsTree ws spells old new (Ok e) =
    spells (tree_of e) (point_of old) (point_of new) × (new.end ≡ old.end) × OneCharEach e
ReadsTree ws spells old new (Err e) = Fails ws old e

-- the same for a tree in a box
abbrev pub ReadsBoxed : List Want → (Tree → Point → Point → Type 0) → Reader → Reader → Result (Box Expr) Error → Type 0
ReadsBoxed ws spells old new (Ok b) =
    spells (tree_of b.value) (point_of old) (point_of new) × (new.end ≡ old.end) × OneCharEach b.value
ReadsBoxed ws spells old new (Err e) = Fails ws old e

-- a tree, and the closing parenthesis after it
abbrev pub SpellsLast : Point → Point → Tree → Type 0
SpellsLast x z e = (y : Point) × Spells x y e × Takes closing y tt z

-- these parts follow the given ones
abbrev pub SpellsPartsAfter : Bool → List Expr → List Expr → Point → Point → Type 0
SpellsPartsAfter splices given parts x y =
    (es : List Tree) × SpellsParts splices x y es × (map tree_of parts ≡ map tree_of given ++ es)
    × (Each OneCharEach given → Each OneCharEach parts)

-- these trees follow the given ones, or memory ran out
abbrev pub Appends : List Expr → List Tree → List Expr → Result (Unit {0}) Error → Type 0
Appends given es parts (Ok u) =
    (map tree_of parts ≡ map tree_of given ++ es) × (Each OneCharEach given → Each OneCharEach parts)
Appends given es parts (Err e) = e ≡ Memory

-- the tree is made, or memory ran out
abbrev pub Makes : Tree → Result Expr Error → Type 0
Makes e (Ok made) = (tree_of made ≡ e) × OneCharEach made
Makes e (Err x) = x ≡ Memory

-- a quoted text was passed, and its parts were added; or memory ran out
abbrev pub SplicesText : Reader → Reader → List Expr → List Expr → Result (Unit {0}) Error → Type 0
SplicesText old new given parts (Ok u) =
    (q : Bool × List ℕ)
    × Takes quoted (point_of old) q (point_of new)
    × (new.end ≡ old.end)
    × (map tree_of parts ≡ map tree_of given ++ parts_of_text q.0 q.1)
    × (Each OneCharEach given → Each OneCharEach parts)
SplicesText old new given parts (Err e) = e ≡ Memory

-- the step was made: its tokens were added; or memory ran out
abbrev pub Lexes : Step → Lexer → Lexer → Result (Unit {0}) Error → Type 0
Lexes step old new (Ok u) =
    (lexing_of new ≡ step.next) × (all_placed new.tokens.items ≡ all_placed old.tokens.items ++ step.tokens)
Lexes step old new (Err e) = e ≡ Memory

-- the fault of a text with these tokens, or want of memory
abbrev pub IsFault : ℕ → List Placed → Error → Type 0
IsFault end ts (TreeFault at) = IsFaultAt end ts at
IsFault end ts Memory = Unit {0}
IsFault end ts e = ⊥
