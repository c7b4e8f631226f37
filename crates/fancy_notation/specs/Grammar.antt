-- The grammar: which tokens spell which tree, as a relation between a point before and one behind.
use Rattle.std.specs.Prelude.{◌≡◌, ℕ, ℤ, suc, Bool, true, false, List, [], ◌∷◌, ◌++◌, map, chars, Option, Some, None, if◌then◌else◌, nat_lt}
use Rattle.fancy_meaning.specs.Tree as plain
use Rattle.fancy_meaning.specs.Tree.{Tree, trees}
use Rattle.fancy_meaning.specs.WellFormed.{most_groups}
use Rattle.fancy_expr.specs.Views.{look_of}
use Rattle.fancy_notation.specs.declared.forms.Enclosing.{Enclosing}
use Rattle.fancy_notation.specs.declared.forms.Enclosing.TheVariants as enclosing
use Rattle.fancy_notation.specs.declared.forms.Naming.{Naming}
use Rattle.fancy_notation.specs.declared.forms.Naming.TheVariants as naming
use Rattle.fancy_notation.specs.declared.forms.Leveled.{Leveled}
use Rattle.fancy_notation.specs.declared.forms.Leveled.TheVariants as leveled
use Rattle.fancy_notation.specs.declared.forms.Form.{Form}
use Rattle.fancy_notation.specs.declared.forms.Form.TheVariants as form
use Rattle.fancy_notation.specs.Tokens.{Token, Placed, Opened, Closed, Quoted, Word}
use Rattle.fancy_notation.specs.Words.{leaf_of, form_of, verb_of, number_of, level_of, count_of, bound_at_least, byte_of}

-- a point between two tokens: the tokens after it, and how many groups were opened before it
pub record Point : Type 0 where
  pub groups : ℕ
  pub tokens : List Placed

-- what a word gives, and other tokens do not
abbrev pub in_word : {V : Type 0} → (List ℕ → Option V) → Token → Option V
in_word f (Word w) = f w
in_word f t = None

abbrev pub opening : Token → Option (Unit {0})
opening Opened = Some tt
opening t = None

abbrev pub closing : Token → Option (Unit {0})
closing Closed = Some tt
closing t = None

-- a quoted text, and whether it is folded
abbrev pub quoted : Token → Option (Bool × List ℕ)
quoted (Quoted folded text) = Some (folded, text)
quoted t = None

-- the text of a class: not folded, and not empty
abbrev pub class : Token → Option (List ℕ)
class (Quoted false (b ∷ bs)) = Some (b ∷ bs)
class t = None

-- a group is counted, and may not be one too many
abbrev pub counted : ℕ → Form → Option (Form × ℕ)
counted groups (form.Enclosing enclosing.Group) =
    if nat_lt groups most_groups then Some (form.Enclosing enclosing.Group, suc groups) else None
counted groups f = Some (f, groups)

abbrev pub head_word : ℕ → List ℕ → Option (Form × ℕ)
head_word groups w = elim (form_of w) [ Some f ↦ counted groups f | None ↦ None ]

-- between x and y stands one token, which gives v
pub record Takes {V : Type 0} (gives : Token → Option V) (x : Point) (v : V) (y : Point) : Type 0 where
  pub first : Placed
  pub tokens : x.tokens ≡ first ∷ y.tokens
  pub groups : y.groups ≡ x.groups
  pub is : gives first.token ≡ Some v

-- between x and z stand an opening parenthesis and the word of a form
pub record Begins (x : Point) (f : Form) (z : Point) : Type 0 where
  pub y : Point
  pub opened : Takes opening x tt y
  pub after : Point
  pub head : Takes (in_word (head_word y.groups)) y (f, z.groups) after
  pub tokens : z.tokens ≡ after.tokens

abbrev pub literals : Bool → List ℕ → List Tree
literals folded text = map (λ c. plain.Literal c folded) (chars text)

-- none is nothing, one is itself, more are a sequence
abbrev pub joined : List Tree → Tree
joined [] = plain.Empty
joined (e ∷ []) = e
joined es = plain.Concat (trees es)

-- what a quoted text gives directly in a sequence
abbrev pub parts_of_text : Bool → List ℕ → List Tree
parts_of_text folded [] = plain.Empty ∷ []
parts_of_text folded text = literals folded text

abbrev pub enclosed : Enclosing → Tree → Tree
enclosed enclosing.Group e = plain.Group 0 e
enclosed enclosing.Atomic e = plain.AtomicGroup e
enclosed enclosing.Define e = plain.DefineGroup e
enclosed (enclosing.Look l) e = plain.LookAround (look_of l) e
enclosed enclosing.AbsentRepeater e = plain.AbsentRepeater e
enclosed enclosing.AbsentStopper e = plain.AbsentStopper e

abbrev pub named : Naming → ℕ → Tree
named (naming.Backref casei) g = plain.Backref g casei
named naming.Exists g = plain.BackrefExists g None
named naming.Call g = plain.SubroutineCall g

abbrev pub named_at : Leveled → ℕ → ℤ → Tree
named_at leveled.Backref g l = plain.BackrefWithLevel g l false
named_at leveled.Exists g l = plain.BackrefExists g (Some l)

-- a quoted text comes next
abbrev pub is_at_text : List Placed → Bool
is_at_text [] = false
is_at_text (p ∷ ps) = elim (quoted p.token) [ Some q ↦ true | None ↦ false ]

-- numbers of characters, and the closing parenthesis after them
pub data SpellsBytes : Point → Point → List ℕ → Type 0 where
  no_byte : {x y : Point} → Takes closing x tt y → SpellsBytes x y []
  byte : {x y z : Point} {b : ℕ} {bs : List ℕ} → Takes (in_word byte_of) x b y → SpellsBytes y z bs →
      SpellsBytes x z (b ∷ bs)

mutual
  -- the tokens between two points spell a tree
  pub data Spells : Point → Point → Tree → Type 0 where
    text : {x y : Point} {folded : Bool} {bytes : List ℕ} → Takes quoted x (folded, bytes) y →
        Spells x y (joined (literals folded bytes))
    leaf : {x y : Point} {e : Tree} → Takes (in_word leaf_of) x e y → Spells x y e
    formed : {x y z : Point} {f : Form} {e : Tree} → Begins x f y → SpellsForm f y z e → Spells x z e

  -- they are what follows the word of a form, up to its closing parenthesis
  pub data SpellsForm : Form → Point → Point → Tree → Type 0 where
    cat : {x y : Point} {es : List Tree} → SpellsParts true x y es → SpellsForm form.Cat x y (plain.Concat (trees es))
    alt : {x y z : Point} {e : Tree} {es : List Tree} → Spells x y e → SpellsParts false y z es →
        SpellsForm form.Alt x z (plain.Alt (trees (e ∷ es)))
    around : {x y z : Point} {f : Enclosing} {e : Tree} → Spells x y e → Takes closing y tt z →
        SpellsForm (form.Enclosing f) x z (enclosed f e)
    repeat : {x y z u v : Point} {greedy : Bool} {lo : ℕ} {hi : Option ℕ} {e : Tree} →
        Takes (in_word count_of) x lo y →
        Takes (in_word (bound_at_least lo)) y hi z →
        Spells z u e →
        Takes closing u tt v →
        SpellsForm (form.Repeat greedy) x v (plain.Repeat lo hi greedy e)
    set : {x y z : Point} {casei : Bool} {inner : List ℕ} → Takes class x inner y → Takes closing y tt z →
        SpellsForm (form.Set casei) x z (plain.Delegate inner casei)
    bytes : {x y : Point} {bs : List ℕ} → SpellsBytes x y bs → SpellsForm form.Bytes x y (plain.LiteralBytes bs)
    names : {x y z : Point} {f : Naming} {g : ℕ} → Takes (in_word number_of) x g y → Takes closing y tt z →
        SpellsForm (form.Naming f) x z (named f g)
    names_at : {x y z u : Point} {f : Leveled} {g : ℕ} {l : ℤ} →
        Takes (in_word number_of) x g y →
        Takes (in_word level_of) y l z →
        Takes closing z tt u →
        SpellsForm (form.Leveled f) x u (named_at f g l)
    verb : {x y z : Point} {w : plain.Verb} → Takes (in_word verb_of) x w y → Takes closing y tt z →
        SpellsForm form.Verb x z (plain.Control w)
    conditional : {x y z u v : Point} {c t f : Tree} →
        Spells x y c →
        Spells y z t →
        Spells z u f →
        Takes closing u tt v →
        SpellsForm form.Conditional x v (plain.Conditional c t f)
    absent_expression : {x y z u : Point} {a e : Tree} →
        Spells x y a →
        Spells y z e →
        Takes closing z tt u →
        SpellsForm form.AbsentExpression x u (plain.AbsentExpression a e)

  -- none or more expressions, and the closing parenthesis after them; in a sequence a quoted text gives its literals
  pub data SpellsParts : Bool → Point → Point → List Tree → Type 0 where
    no_part : {splices : Bool} {x y : Point} → Takes closing x tt y → SpellsParts splices x y []
    spliced : {x y z : Point} {folded : Bool} {bytes : List ℕ} {es : List Tree} → Takes quoted x (folded, bytes) y →
        SpellsParts true y z es → SpellsParts true x z (parts_of_text folded bytes ++ es)
    part : {splices : Bool} {x y z : Point} {e : Tree} {es : List Tree} →
        (splices ≡ true → is_at_text x.tokens ≡ false) →
        Spells x y e →
        SpellsParts splices y z es →
        SpellsParts splices x z (e ∷ es)

-- the tokens are one expression
pub record IsSpelled (ts : List Placed) (e : Tree) : Type 0 where
  pub last : Point
  pub spells : Spells (record { groups = 0; tokens = ts }) last e
  pub none_left : last.tokens ≡ []
