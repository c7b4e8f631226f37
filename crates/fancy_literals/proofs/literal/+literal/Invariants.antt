use Rattle.std.proofs.Common.{Bool, List, drop, map, string_bytes, ℕ}
use Rattle.fancy_meaning.specs.Tree.{trees}
use Rattle.fancy_expr.specs.Views.{tree_of}
use Rattle.fancy_literals.specs.Leads.{AddsInOrder}
use Rattle.fancy_literals.proofs.literal.+literal.Given as goal

-- what is left of the nodes decides
abbrev pub invariant-add_literal_of_parts-loop-part : goal.invariant-add_literal_of_parts-loop-part
invariant-add_literal_of_parts-loop-part l =
    (new : List ℕ) (whole : Bool) → AddsInOrder (string_bytes l.literal) new whole (trees (map tree_of (drop l.part-index l.parts))) →
    AddsInOrder (string_bytes l.fn.literal) new whole (trees (map tree_of l.parts))
