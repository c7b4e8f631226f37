-- Links from target to target: tracked calls, and from the whole tree to its outer groups.
use Rattle.std.specs.Prelude.{◌≡◌, ℕ, Bool, true, false, ◌||◌, ◌&&◌, not, List, filter_map, Option, Some, None, if◌then◌else◌, ◌==◌}
use Rattle.fancy_meaning.specs.Tree as plain
use Rattle.fancy_meaning.specs.Tree.{Tree}
use Rattle.fancy_meaning.specs.Spots as plain_spots
use Rattle.fancy_meaning.specs.Spots.{Spot, spot, spots, all_spots, in_group, in_loop}
use Rattle.fancy_analysis.specs.declared.links.Around.{Around}
use Rattle.fancy_analysis.specs.declared.links.Link.{Link}
use Rattle.fancy_expr.specs.declared.expr.Expr.{Expr}
use Rattle.fancy_expr.specs.declared.expr.Expr.TheVariants as code
use Rattle.fancy_expr.specs.Views.{bound_of}

-- only whether something stands before a node matters
pub record IsAt (code : Around) (a : plain_spots.Around) : Type 0 where
  pub owner : code.owner ≡ a.owner
  pub at_start : code.at_start ≡ (a.position == 0)
  pub is_skipped : code.is_skipped ≡ a.is_skipped

abbrev pub link_from : Tree → plain_spots.Around → Option Link
link_from (plain.SubroutineCall g) a =
    if not (a.owner == 0) || not a.is_skipped then Some
    (record { from = a.owner; to = g; at_once = a.position == 0 }) else None
link_from (plain.Group g e) a =
    if a.owner == 0 && not a.is_skipped then Some (record { from = 0; to = g; at_once = false }) else None
link_from e a = None

abbrev pub around_of : Spot → plain_spots.Around
around_of s = record { owner = s.owner; position = s.position; is_skipped = s.is_skipped }

abbrev pub link_of : Spot → Option Link
link_of s = link_from s.node (around_of s)

-- the links of a part of the tree
unfoldable pub links_at : Tree → plain_spots.Around → Tree → List Link
links_at whole a e = filter_map link_of (spots whole a e)

-- the links of the tree
unfoldable pub links_of : Tree → List Link
links_of whole = filter_map link_of (all_spots whole)

-- around the first child of a node
abbrev pub around_inside : Expr → ℕ → plain_spots.Around → plain_spots.Around
around_inside (code.Group' b e) n a = record a { owner = n; position = 0 }
around_inside (code.DefineGroup' b e) n a = record a { position = 0 }
around_inside (code.Repeat' b e lo hi greedy) n a =
    record a { is_skipped = a.is_skipped || plain_spots.is_never (bound_of hi) }
around_inside e n a = a

-- the child after this one stands behind it
abbrev pub follows : Expr → ℕ → Bool
follows (code.Concat' shape es) i = true
follows (code.Conditional' b c d t x f) i = i == 0
follows e i = false
