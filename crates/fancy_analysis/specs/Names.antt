-- The names of groups, and the description of the least group that is left recursive.
use Rattle.std.specs.Prelude.{ℕ, List, map, string_bytes, String, Vec}
use Rattle.std.specs.Global.{Global}
use Rattle.fancy_meaning.specs.Tree.{Tree}
use Rattle.fancy_meaning.specs.AnalysisRefusals.{Describes}
use Rattle.fancy_meaning.specs.Recursion.{IsLeastLeftRecursive}

-- each name with its numbers
abbrev pub names_of : List (String Global × Vec ℕ Global) → List (List ℕ × List ℕ)
names_of entries = map (λ named. (string_bytes named.0, named.1.items)) entries

-- the text describes the least target that is left recursive
pub record IsDescriptionOfLeast (whole : Tree) (names : List (List ℕ × List ℕ)) (text : List ℕ) : Type 0 where
  pub group : ℕ
  pub is_least : IsLeastLeftRecursive whole group
  pub describes : Describes names group text
