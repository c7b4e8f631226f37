-- Neighbouring nodes that are searched for plainly.
use Rattle.std.specs.Prelude.{◌≡◌, false, List, map}
use Rattle.fancy_meaning.specs.Tree.{Trees, trees}
use Rattle.fancy_meaning.specs.Hard.{is_hard}
use Rattle.fancy_meaning.specs.Options.{Analysis}
use Rattle.fancy_expr.specs.Each.{Each}
use Rattle.fancy_info.specs.declared.info.Info.{Info}
use Rattle.fancy_info.specs.Infos.{info_tree, IsAnalysed}

-- an analysed node that is not hard
pub record IsEasy (a : Analysis) (i : Info) : Type 0 where
  pub analysed : IsAnalysed a i
  pub easy : is_hard a (info_tree i) ≡ false

abbrev pub IsEasyNode : Info → Type 0
IsEasyNode i = (a : Analysis) × IsEasy a i

-- easy nodes of one tree
abbrev pub AreNeighbours : List Info → Type 0
AreNeighbours is = (a : Analysis) × Each (IsEasy a) is

abbrev pub trees_of : List Info → Trees
trees_of is = trees (map info_tree is)
