-- When a pattern of the kit stands for a node, and patterns for nodes next to each other.
use Rattle.std.specs.Prelude.{◌≡◌, ℕ, ◌+◌, Bool, List, [], ◌∷◌, map}
use Rattle.regex_hir.specs.Meaning.{meaning}
use Rattle.fancy_meaning.specs.Tree.{Tree}
use Rattle.fancy_meaning.specs.Nodes.{group_count}
use Rattle.fancy_agreement.specs.Captures.{AreCaptured, Captures}
use Rattle.fancy_hybrid.specs.declared.translate.Translated.{Translated}
use Rattle.fancy_hybrid.specs.declared.translate.Parts.{Parts}

-- It takes the first ways of the node, whose first group has this number, and the number after its groups is known.
pub record IsTranslated (unicode : Bool) (first : ℕ) (e : Tree) (it : Translated) : Type 0 where
  pub captures : Captures unicode first e (meaning it.hir)
  pub next : it.next ≡ first + group_count e

-- how many groups nodes have together
abbrev pub group_counts : List Tree → ℕ
group_counts [] = 0
group_counts (e ∷ es) = group_count e + group_counts es

pub record AreTranslated (unicode : Bool) (first : ℕ) (es : List Tree) (parts : Parts) : Type 0 where
  pub captures : AreCaptured unicode first es (map meaning parts.hirs.items)
  pub next : parts.next ≡ first + group_counts es
