use Rattle.std.proofs.Common.{◌≡◌, map, take}
use Rattle.fancy_expr.specs.Views.{tree_of}
use Rattle.fancy_info.specs.Infos.{info_expr}
use Rattle.fancy_fragments.proofs.same.exprs_differ.Given as goal

abbrev pub invariant-loop-i : goal.invariant-loop-i
invariant-loop-i l = map tree_of (take l.i l.exprs) ≡ map (λ i. tree_of (info_expr i)) (take l.i l.infos)
