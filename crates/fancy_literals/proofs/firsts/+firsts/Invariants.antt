use Rattle.std.proofs.Common.{◌≡◌, Bool, List, drop, map, true}
use Rattle.fancy_meaning.specs.Tree.{trees}
use Rattle.fancy_expr.specs.Views.{tree_of}
use Rattle.fancy_literals.specs.Opens.{Grows, OpensEach, OpensInOrderBy}
use Rattle.fancy_literals.specs.declared.firsts.Opening.{Opening}
use Rattle.fancy_literals.proofs.OpenLaws.{may_stay}
use Rattle.fancy_literals.proofs.firsts.+firsts.Given as goal

-- what is left of the nodes decides
abbrev pub invariant-add_first_of_parts-loop-part : goal.invariant-add_first_of_parts-loop-part
invariant-add_first_of_parts-loop-part l =
    Grows l.fn.bytes l.bytes
    × ((o : Opening) (larger : List Bool) → Grows l.bytes larger →
    OpensInOrderBy l.unicode o larger (trees (map tree_of (drop l.part-index l.parts))) → OpensInOrderBy l.unicode o larger (trees (map tree_of l.parts)))

abbrev pub invariant-add_first_of_branches-loop-branch : goal.invariant-add_first_of_branches-loop-branch
invariant-add_first_of_branches-loop-branch l =
    Grows l.fn.bytes l.bytes
    × ((stays : Bool) (larger : List Bool) → Grows l.bytes larger → (may_stay l.all ≡ true → stays ≡ true) →
    OpensEach l.unicode stays larger (trees (map tree_of (drop l.branch-index l.branches))) → OpensEach l.unicode stays larger (trees (map tree_of l.branches)))
