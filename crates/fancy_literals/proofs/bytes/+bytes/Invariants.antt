use Rattle.std.proofs.Common.{IfSome, map, take}
use Rattle.fancy_meaning.specs.Tree.{trees}
use Rattle.fancy_expr.specs.Views.{tree_of}
use Rattle.fancy_literals.specs.TakesByte.{EachTakesByte, OneTakesByte}
use Rattle.fancy_literals.proofs.bytes.+bytes.Given as goal

abbrev pub invariant-rarest_of-loop-part : goal.invariant-rarest_of-loop-part
invariant-rarest_of-loop-part l =
    IfSome l.rarest (λ bytes. OneTakesByte l.unicode l.behind bytes (trees (map tree_of (take l.part-index l.parts))))

abbrev pub invariant-union_of-loop-branch : goal.invariant-union_of-loop-branch
invariant-union_of-loop-branch l = EachTakesByte l.unicode l.behind l.union (trees (map tree_of (take l.branch-index l.branches)))
