-- The table of what calls may name.
use Rattle.std.specs.Prelude.{◌≡◌, ℕ, suc, ◌+◌, ◌-◌, ◌==◌, ◌≤◌, Bool, true, false, ◌&&◌, ◌||◌, nat_eq, nat_le, nat_lt, List, [], ◌∷◌, ◌++◌, map, length, slice_index_or, if◌then◌else◌}
use Rattle.std.specs.Borrow.{Bor}
use Rattle.std.specs.List.{list_any}
use Rattle.fancy_meaning.specs.Tree as plain
use Rattle.fancy_meaning.specs.Tree.{Tree}
use Rattle.fancy_meaning.specs.Marks.{marked_groups}
use Rattle.fancy_meaning.specs.Nodes.{groups}
use Rattle.fancy_meaning.specs.Options.{Analysis}
use Rattle.fancy_expr.specs.declared.expr.Expr.{Expr}
use Rattle.fancy_expr.specs.declared.expr.Expr.TheVariants as code
use Rattle.fancy_info.specs.declared.info.Info.{Info}
use Rattle.fancy_info.specs.Infos.{info_tree, info_facts}
use Rattle.fancy_expr.specs.Each.{Each}
use Rattle.fancy_compile.specs.declared.group_table.GroupTable.{GroupTable}
use Rattle.fancy_info.specs.NodeCounts.{node_count}
use Rattle.fancy_compile.specs.AnalysedNodes.{IsKnown, IsFineTree}

-- ---- the entries

-- numbered one by one, from this number
abbrev pub AreNumbered : ℕ → List (ℕ × Tree) → Type 0
AreNumbered n [] = Unit {0}
AreNumbered n (h ∷ hs) = (h.0 ≡ n) × AreNumbered (suc n) hs

-- a node of at most this size is known, and is well formed
abbrev pub IsEntry : Analysis → ℕ → Bor Info → Type 0
IsEntry a most b = IsKnown a b.now × (node_count b.now ≤ most) × IsFineTree (info_tree b.now)

-- a group, of its number and its body
abbrev pub group_node : ℕ × Tree → Tree
group_node h = plain.Group h.0 h.1

-- ---- the table

abbrev pub is_group : Expr → Bool
is_group (code.Group' b e) = true
is_group e = false

abbrev pub is_concat : Expr → Bool
is_concat (code.Concat' shape es) = true
is_concat e = false

-- the trees of these nodes
abbrev pub trees_of : List (Bor Info) → List Tree
trees_of = map (λ b. info_tree b.now)

abbrev pub group_trees : Tree → List Tree
group_trees e = map group_node (groups e)

-- the node, where it is a group
abbrev pub own_trees : Bool → Tree → List Tree
own_trees is e = if is then e ∷ [] else []

-- each of them is known, where the node is
abbrev pub AddsKnown : Info → List (Bor Info) → List (Bor Info) → Type 0
AddsKnown i old new =
    (a : Analysis) (most : ℕ) → IsKnown a i → IsFineTree (info_tree i) → node_count i ≤ most
    → Each (IsEntry a most) old → Each (IsEntry a most) new

pub record GathersOwn (i : Info) (old new : List (Bor Info)) : Type 0 where
  pub nodes : trees_of new ≡ trees_of old ++ own_trees (is_group (info_facts i).expr) (info_tree i)
  pub known : AddsKnown i old new

-- the node's groups are added
pub record Gathers (i : Info) (old new : List (Bor Info)) : Type 0 where
  pub nodes : (a : Analysis) → IsKnown a i → trees_of new ≡ trees_of old ++ group_trees (info_tree i)
  pub known : AddsKnown i old new

-- the marks of these numbers are set, where the first mark is that of this number
pub record MarksAll (first : ℕ) (gs : List ℕ) (old new : List Bool) : Type 0 where
  pub as_many : length new ≡ length old
  pub marks : (k : ℕ) → slice_index_or new k false ≡
      (slice_index_or old k false || (nat_lt k (length old) && list_any (nat_eq (first + k)) gs))

abbrev pub Marks : Info → ℕ → List Bool → List Bool → Type 0
Marks i first old new = (a : Analysis) → IsKnown a i → MarksAll first (marked_groups a.tree (info_tree i)) old new

-- the table of a tree's groups
pub record IsTable (i : Info) (first : ℕ) (g : GroupTable) : Type 0 where
  pub from : g.first ≡ first
  pub nodes : Gathers i [] g.nodes.items
  pub starts : (a : Analysis) → IsKnown a i → (k : ℕ)
      → slice_index_or g.starts.items k false
      ≡ (nat_lt k (length g.nodes.items) && list_any (nat_eq (first + k)) (marked_groups a.tree (info_tree i)))

-- there is something that a call of the number calls
abbrev pub has_target : GroupTable → ℕ → Bool
has_target gs g = g == 0 || (nat_le gs.first g && nat_lt (g - gs.first) (length gs.nodes.items))
