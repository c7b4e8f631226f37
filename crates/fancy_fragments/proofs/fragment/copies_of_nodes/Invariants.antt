use Rattle.std.proofs.Common.{◌≡◌, map, take}
use Rattle.fancy_expr.specs.Views.{tree_of}
use Rattle.fancy_fragments.specs.Nodes.{plain_tree}
use Rattle.fancy_fragments.proofs.fragment.copies_of_nodes.Given as goal

abbrev pub invariant-loop-info : goal.invariant-loop-info
invariant-loop-info l = map tree_of l.copies.items ≡ map plain_tree (take l.info-index l.infos)
