-- What each match of a tree takes.
use Rattle.std.specs.Prelude.{◌≡◌, ◌≤◌, ℕ, Bool, true, false, List, [], ◌∷◌, None, drop, if◌then◌else◌, slice_index_or}
use Rattle.regex_hir.specs.Text.{has_bytes_at}
use Rattle.fancy_meaning.specs.Answer.{answer, search_of}
use Rattle.fancy_meaning.specs.Options.{RunOptions}
use Rattle.fancy_meaning.specs.Premises.{Input, plan}
use Rattle.fancy_meaning.specs.Tree.{Tree}
use Rattle.fancy_literals.specs.declared.required.Required.TheVariants as code
use Rattle.fancy_literals.specs.declared.required.Required as declared

-- what may be required of a text: a literal, or one byte of a set, which tells of each byte whether it is in it
pub data Required : Type 0 where
  Piece : (literal : List ℕ) → Required
  OneOf : (bytes : List Bool) → Required

abbrev pub required_of : declared.Required → Required
required_of (code.Literal literal) = Piece literal.items
required_of (code.OneOf set) = OneOf set.bytes

-- the text begins with a byte of the set
abbrev pub begins_among : (bytes : List Bool) → (text : List ℕ) → Bool
begins_among bytes [] = false
begins_among bytes (b ∷ text) = slice_index_or bytes b false

-- it stands in the text from this byte on
abbrev pub stands_at : Required → (text : List ℕ) → ℕ → Bool
stands_at (Piece literal) text i = has_bytes_at text i literal
stands_at (OneOf bytes) text i = begins_among bytes (drop i text)

-- it stands nowhere in the text from this byte on
abbrev pub LacksFrom : Required → (text : List ℕ) → (from : ℕ) → Type 0
LacksFrom r text from = (i : ℕ) → from ≤ i → stands_at r text i ≡ true → ⊥

-- it stands nowhere in the text
abbrev pub Lacks : Required → (text : List ℕ) → Type 0
Lacks r text = LacksFrom r text 0

-- Where a match may take something: where its search begins or behind it; anywhere, if what look-behinds take counts.
abbrev pub taken_from : (behind : Bool) → RunOptions → ℕ
taken_from behind o = if behind then 0 else o.pos

-- No search finds a match in a text that lacks it from there on.
abbrev pub IsRequired : Required → (behind : Bool) → Input → Type 0
IsRequired r behind i =
    (text : List ℕ) (o : RunOptions) → LacksFrom r text (taken_from behind o) → answer (search_of (plan i) text o) ≡ None

-- so it is for this tree, compiled with this option `unicode`
abbrev pub IsRequiredOf : Required → (behind unicode : Bool) → Tree → Type 0
IsRequiredOf r behind unicode tree =
    (i : Input) → (i.parsed).tree ≡ tree → (i.options).unicode ≡ unicode → IsRequired r behind i
