-- How many nodes an `Info` has.
use Rattle.std.specs.Prelude.{ℕ, suc, ◌+◌, List, [], ◌∷◌, map}
use Rattle.fancy_info.specs.declared.info.Info.{Info}
use Rattle.fancy_info.specs.declared.info.Info.TheOpen.{Info-F}
use Rattle.fancy_info.specs.declared.info.Info.TheFolds.{fold-Info}

abbrev pub total : List ℕ → ℕ
total [] = 0
total (n ∷ ns) = n + total ns

abbrev pub size_step : Info-F ℕ → ℕ
size_step i = suc (total i.children.items)

-- how many nodes there are
abbrev pub node_count : Info → ℕ
node_count = fold-Info ℕ size_step

abbrev pub node_counts : List Info → ℕ
node_counts is = total (map node_count is)
