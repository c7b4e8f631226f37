-- The class texts of nodes that are written out, and when one is refused.
use Rattle.std.specs.Prelude.{◌≡◌, ◌⊎◌, ℕ, Bool, List, IsTrue}
use Rattle.fancy_meaning.specs.Tree.{Tree, Trees, Delegate}
use Rattle.fancy_meaning.specs.Chars.{is_class}
use Rattle.fancy_meaning.specs.CompileRefusals.{IsAmong, written_parts}
use Rattle.fancy_expr.specs.declared.error.Error.{Error}
use Rattle.fancy_expr.specs.declared.error.Error.TheVariants.{Memory}
use Rattle.fancy_characters.specs.Classes.{IsClassRefusal}

-- the node, or one that is written out with it, is this class
pub data HasClass (inner : List ℕ) (casei : Bool) : Tree → Type 0 where
  itself : HasClass inner casei (Delegate inner casei)
  below : {e c : Tree} → IsAmong c (written_parts e) → HasClass inner casei c → HasClass inner casei e

-- some class texts, folded or not
abbrev pub Texts : Type 1
Texts = List ℕ → Bool → Type 0

abbrev pub no_text : Texts
no_text inner casei = ⊥

-- those of a node
abbrev pub texts_of : Tree → Texts
texts_of e inner casei = HasClass inner casei e

-- those of one of these nodes
abbrev pub texts_in : Trees → Texts
texts_in es inner casei = (e : Tree) × (IsAmong e es × HasClass inner casei e)

abbrev pub AreClasses : Bool → Texts → Type 0
AreClasses unicode texts = (inner : List ℕ) (casei : Bool) → texts inner casei → IsTrue (is_class unicode inner casei)

-- want of memory, or one of the texts is refused
abbrev pub IsRefusal : Bool → Texts → Error → Type 0
IsRefusal unicode texts error =
    (error ≡ Memory)
    ⊎ ((inner : List ℕ) × ((casei : Bool) × (texts inner casei × IsClassRefusal unicode inner casei error)))
