use Rattle.std.proofs.Common.{◌≡◌, map, take}
use Rattle.fancy_expr.specs.Views.{tree_of}
use Rattle.fancy_pattern.specs.Grammar.{named}
use Rattle.fancy_pattern.proofs.nodes.nodes_for.Given as goal

abbrev pub invariant-loop-group : goal.invariant-loop-group
invariant-loop-group l = map tree_of l.nodes.items ≡ map (named l.naming l.level) (take l.group-index l.groups)
