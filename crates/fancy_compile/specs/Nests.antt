-- How deep easy nodes nest, and how deep a whole tree does.
use Rattle.std.specs.Prelude.{ℕ, Bool, true, false, not, ◌==◌, List, Option, map}
use Rattle.fancy_meaning.specs.CompileRefusals.{IsAmong}
use Rattle.fancy_meaning.specs.OpenCalls.{Depths}
use Rattle.fancy_meaning.specs.Tree.{Tree, trees}
use Rattle.fancy_expr.specs.declared.expr.Expr.{Expr}
use Rattle.fancy_expr.specs.declared.expr.Expr.TheVariants as code
use Rattle.fancy_info.specs.declared.info.Info.{Info}
use Rattle.fancy_info.specs.Infos.{info_tree}
use Rattle.fancy_code.specs.Nesting.{NestsDeeper}

-- what stands in the node is written out with it
abbrev pub is_entered : Expr → Bool
is_entered (code.Repeat' b e lo hi greedy) = not (hi == 0)
is_entered (code.DefineGroup' b e) = false
is_entered e = true

-- whichever calls are open
abbrev pub IsDeeper : ℕ → Tree → Type 0
IsDeeper most e = (whole : Tree) (calls : Depths) → NestsDeeper whole calls most e

abbrev pub IsNoDeeper : ℕ → Tree → Type 0
IsNoDeeper most e = (whole : Tree) (calls : Depths) → ¬ NestsDeeper whole calls most e

abbrev pub OneDeeper : ℕ → List Info → Type 0
OneDeeper most is = (e : Tree) × IsAmong e (trees (map info_tree is)) × IsDeeper most e

abbrev pub NoneDeeper : ℕ → List Info → Type 0
NoneDeeper most is = (e : Tree) → IsAmong e (trees (map info_tree is)) → IsNoDeeper most e
