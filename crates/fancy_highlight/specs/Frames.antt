-- The order in which patterns are tried in a region.
use Rattle.std.specs.Prelude.{ℕ, zero, suc, List, [], ◌∷◌, Option, Some, None}
use Rattle.fancy_highlight.specs.declared.frames.Tried.{Tried}

-- the patterns, with one more at this place among them, or at the end if there are fewer
abbrev pub put_at : ℕ → Tried → List Tried → List Tried
put_at zero end rules = end ∷ rules
put_at (suc place) end [] = end ∷ []
put_at (suc place) end (rule ∷ rules) = rule ∷ put_at place end rules

-- the patterns of the rules, with that of the end at its place among them
abbrev pub order_with : Option Tried → ℕ → List Tried → List Tried
order_with None place rules = rules
order_with (Some end) place rules = put_at place end rules
