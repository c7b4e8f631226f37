use Rattle.std.proofs.Common.{drop, false, map}
use Rattle.fancy_meaning.specs.Tree.{trees}
use Rattle.fancy_expr.specs.Views.{tree_of}
use Rattle.fancy_literals.specs.Befores.{Admits, IsBeforeEach, IsBeforeInOrder}
use Rattle.fancy_literals.specs.declared.before.Before.{Before}
use Rattle.fancy_literals.proofs.before.+before.Given as goal

-- what is left of the nodes decides
abbrev pub invariant-before_parts-loop-part : goal.invariant-before_parts-loop-part
invariant-before_parts-loop-part l =
    (before : Before) → IsBeforeInOrder l.unicode false before (trees (map tree_of (drop l.part-index l.parts))) →
    IsBeforeInOrder l.unicode false before (trees (map tree_of l.parts))

abbrev pub invariant-before_branches-loop-branch : goal.invariant-before_branches-loop-branch
invariant-before_branches-loop-branch l =
    (larger : Before) → Admits l.all larger → IsBeforeEach l.unicode l.at_end larger (trees (map tree_of (drop l.branch-index l.branches))) →
    IsBeforeEach l.unicode l.at_end larger (trees (map tree_of l.branches))
