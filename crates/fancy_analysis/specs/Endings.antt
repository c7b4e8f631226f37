-- Which parts can end, where flags say it of the targets, and the rounds of those flags.
use Rattle.std.specs.Prelude.{◌≡◌, ℕ, zero, suc, ◌+◌, ◌≤◌, max, Bool, true, false, ◌&&◌, ◌||◌, ◌==◌, if◌then◌else◌, List, length, map, replicate, slice_index_or}
use Rattle.std.specs.Bool.{beq}
use Rattle.std.specs.Cmp.Lexicographic.{pointwise}
use Rattle.std.specs.List.{list_any}
use Rattle.fancy_meaning.specs.Tree as plain
use Rattle.fancy_meaning.specs.Tree.{Tree, Trees, none, more}
use Rattle.fancy_meaning.specs.Nodes.{nodes, group_count}
use Rattle.fancy_meaning.specs.Numbering.{numbered}
use Rattle.fancy_meaning.specs.Places.{range_from}
use Rattle.fancy_meaning.specs.Options.{Analysis}
use Rattle.fancy_info.specs.declared.info.Info.{Info}
use Rattle.fancy_info.specs.declared.info.Info.TheViews.{out-Info}
use Rattle.fancy_expr.specs.declared.expr.Expr.{Expr}
use Rattle.fancy_expr.specs.declared.expr.Expr.TheVariants as code
use Rattle.fancy_meaning.specs.Sizes.{known_of}
use Rattle.fancy_info.specs.Infos.{info_tree, IsAnalysed}
use Rattle.fancy_analysis.specs.Made.{IsSized}
use Rattle.fancy_analysis.specs.Rounds.{rounds_from}

-- the root of a tree whose groups are numbered, with the sizes of its nodes
pub record IsRootOf (whole : Tree) (root : Info) : Type 0 where
  pub tree : info_tree root ≡ whole
  pub sized : IsSized (known_of whole) root
  pub first : ℕ
  pub is_first : first ≤ 1
  pub parsed : Tree
  pub numbered : whole ≡ numbered first parsed
  pub end_group : (out-Info root).end_group ≡ first + group_count whole

-- the tree of an analysis, as the walk leaves it
pub record IsWhole (a : Analysis) (info : Info) : Type 0 where
  pub analysed : IsAnalysed a info
  pub root : IsRootOf a.tree info

-- how many flags there are, for the whole tree and its groups
abbrev pub flag_count : Info → ℕ
flag_count root = max (out-Info root).end_group 1

-- a part ends if each target with a flag does
abbrev mutual
  pub ends_by : List Bool → Tree → Bool
  ends_by flags (plain.Concat es) = all_end_by flags es
  ends_by flags (plain.Alt es) = some_end_by flags es
  ends_by flags (plain.Group g e) = ends_by flags e
  ends_by flags (plain.LookAround look e) = ends_by flags e
  ends_by flags (plain.Repeat lo hi greedy e) = (lo == 0) || ends_by flags e
  ends_by flags (plain.AtomicGroup e) = ends_by flags e
  ends_by flags (plain.DefineGroup e) = ends_by flags e
  ends_by flags (plain.Conditional c t f) = (ends_by flags c && ends_by flags t) || ends_by flags f
  -- a number without a flag is no target
  ends_by flags (plain.SubroutineCall g) = slice_index_or flags g true
  ends_by flags (plain.AbsentRepeater e) = ends_by flags e
  ends_by flags (plain.AbsentStopper e) = ends_by flags e
  ends_by flags (plain.AbsentExpression a e) = ends_by flags a && ends_by flags e
  ends_by flags e = true

  pub all_end_by : List Bool → Trees → Bool
  all_end_by flags none = true
  all_end_by flags (more e es) = ends_by flags e && all_end_by flags es

  pub some_end_by : List Bool → Trees → Bool
  some_end_by flags none = false
  some_end_by flags (more e es) = ends_by flags e || some_end_by flags es

-- how the parts of a node end, before the first one
abbrev pub before_parts : Expr → Bool
before_parts (code.Alt' shape row) = false
before_parts e = true

-- the same with one part more
abbrev pub with_part : Expr → ℕ → Bool → Bool → Bool
with_part (code.Alt' shape row) i so_far ends = so_far || ends
with_part (code.Conditional' b c d t x f) i so_far ends = if i == 2 then so_far || ends else so_far && ends
with_part e i so_far ends = so_far && ends

-- a node ends, by how its parts do
abbrev pub node_ends : List Bool → Expr → Bool → Bool
node_ends flags (code.Repeat' b e lo hi greedy) parts = (lo == 0) || parts
node_ends flags (code.SubroutineCall g) parts = slice_index_or flags g true
node_ends flags e parts = parts

-- the node is group g, and ends
abbrev pub is_ended_group : List Bool → ℕ → Tree → Bool
is_ended_group flags g (plain.Group h e) = (h == g) && ends_by flags e
is_ended_group flags g e = false

-- the same of a node that begins at group n, by whether it ends
abbrev pub is_own_end : Expr → ℕ → Bool → ℕ → Bool
is_own_end (code.Group' b e) n ends g = (n == g) && ends
is_own_end e n ends g = false

-- a group of the tree has the number, and ends
abbrev pub group_ends : List Bool → Tree → ℕ → Bool
group_ends flags e g = list_any (is_ended_group flags g) (nodes e)

-- the whole tree, as target 0, or the group ends
abbrev pub target_ends : List Bool → Tree → ℕ → Bool
target_ends flags whole zero = ends_by flags whole
target_ends flags whole (suc g) = group_ends flags whole (suc g)

-- the flags of one round more: those that are set stay so, and each target is set that ends by them
abbrev pub next_ends : Tree → List Bool → List Bool
next_ends whole flags =
    map (λ g. slice_index_or flags g false || target_ends flags whole g) (range_from 0 (length flags))

-- how many rounds find a target that can end, up to the first that finds none, with so many flags
unfoldable pub ending_rounds : Tree → ℕ → ℕ
ending_rounds whole n = rounds_from (pointwise beq) (next_ends whole) (replicate n false) n
