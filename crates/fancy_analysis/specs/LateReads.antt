-- References behind a call of their group, inside it; and the test whether the group that a node reads is this one.
use Rattle.std.specs.Prelude.{ℕ, Bool, false, ◌&&◌, ◌||◌, ◌==◌, List, [], ◌∷◌, Option, Some, None, nat_eq}
use Rattle.std.specs.List.{fold, list_any}
use Rattle.fancy_meaning.specs.Tree.{Tree, Group, Backref, SubroutineCall}
use Rattle.fancy_meaning.specs.Spots.{Spot}
use Rattle.fancy_meaning.specs.AnalysisRefusals.{is_back_to, spots_in_group}
use Rattle.fancy_analysis.specs.declared.late_reads.Met.{Met}
use Rattle.fancy_expr.specs.declared.expr.Expr.{Expr}
use Rattle.fancy_expr.specs.declared.expr.Expr.TheVariants as code

-- whether the children of a node are group g's own, by whether the node is
abbrev pub own_inside : Expr → ℕ → ℕ → Bool → Bool
own_inside (code.Group' b e) n g own = n == g
own_inside e n g own = own

-- past a node, which may be group g's own
abbrev pub meet : ℕ → Bool → Tree → Met → Met
meet g own (SubroutineCall h) m = record m { call = m.call || (own && h == g) }
meet g own (Backref h casei) m = record m { read_after = m.read_after || (m.call && h == g) }
meet g own e m = m

abbrev pub met_over : ℕ → Met → List Spot → Met
met_over g m ss = fold (λ m s. meet g (s.owner == g) s.node m) m ss

abbrev pub is_own_call : ℕ → Bool → Tree → Bool
is_own_call g own (SubroutineCall h) = own && h == g
is_own_call g own e = false

-- an own call of group g, and a reference to it behind
abbrev pub is_late : ℕ → List Spot → Bool
is_late g [] = false
is_late g (s ∷ ss) = (is_own_call g (s.owner == g) s.node && list_any (λ r. is_back_to g r.node) ss) || is_late g ss

-- the same in the body of a group
abbrev pub is_read_late : Tree → Tree → Bool
is_read_late whole (Group g e) = is_late g (spots_in_group whole g e)
is_read_late whole e = false

-- the number is this one
abbrev pub is_named : Option ℕ → ℕ → Bool
is_named None g = false
is_named (Some h) g = nat_eq g h
