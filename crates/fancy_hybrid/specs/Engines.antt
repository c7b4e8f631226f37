-- What an engine searches for, and what it holds of a match.
use Rattle.std.specs.Prelude.{◌≡◌, ℕ, List, Option, IfSome}
use Rattle.regex_hir.specs.Re.{Re}
use Rattle.regex_hir.specs.Find.{Match}
use Rattle.regex_compile.specs.Implements.{Implements}
use Rattle.regex_vm.specs.Found.{group_cells}
use Rattle.fancy_hybrid.specs.declared.engine.Engine.{Engine}

-- it searches for this pattern
abbrev pub Searches : Re → Engine → Type 0
Searches re e = Implements e.dfa.nfa re

-- these are the cells of the match, if there is one, with so many for its groups
abbrev pub AreCellsOf : ℕ → List ℕ → Option Match → Type 0
AreCellsOf n cells o = IfSome o (λ m. cells ≡ group_cells m n)
