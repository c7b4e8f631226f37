use Rattle.std.proofs.Common.{◌≡◌, ◌++◌, map}
use Rattle.fancy_meaning.specs.Tree.{Literal}
use Rattle.fancy_expr.specs.Views.{tree_of}
use Rattle.fancy_expr.specs.Each.{Each}
use Rattle.fancy_notation.specs.Reading.{OneCharEach}
use Rattle.fancy_notation.proofs.reader.push_literals.Given as goal

abbrev pub invariant-loop-c : goal.invariant-loop-c
invariant-loop-c l =
    (map tree_of l.parts.items ≡ map tree_of l.fn.parts.items ++ map (λ ch. Literal ch l.casei) l.yielded)
    × (Each OneCharEach l.fn.parts.items → Each OneCharEach l.parts.items)
