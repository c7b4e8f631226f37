-- A node's size and hardness from those of its children, when an `Info` was made right, and what a visit gives.
use Rattle.std.specs.Prelude.{◌≡◌, ℕ, ◌+◌, Bool, true, false, ◌&&◌, ◌||◌, not, ◌==◌, List, [], ◌∷◌, map, length, slice_index_or, slice_set}
use Rattle.std.specs.List.{fold}
use Rattle.fancy_meaning.specs.Tree.{Tree, Group, trees}
use Rattle.fancy_meaning.specs.Nodes.{group_count, is_read, nodes}
use Rattle.fancy_meaning.specs.Options.{Analysis, AnalysisOptions}
use Rattle.fancy_meaning.specs.Sizes.{Size, Known, exactly, between, plus, either, times, sum_of, any_of, size_by, size_of_group, size_of_target, known_of}
use Rattle.fancy_meaning.specs.Numbers.{usize_max}
use Rattle.fancy_meaning.specs.Hard.{is_hard_assertion}
use Rattle.fancy_analysis.specs.declared.make.VisitTables.{VisitTables}
use Rattle.fancy_info.specs.declared.info.Info.{Info}
use Rattle.fancy_info.specs.declared.info.Info.TheViews.{out-Info}
use Rattle.fancy_expr.specs.declared.expr.Absent.{Absent}
use Rattle.fancy_expr.specs.declared.expr.Expr.{Expr}
use Rattle.fancy_expr.specs.Views.{assertion_of, bound_of, tree_of}
use Rattle.fancy_expr.specs.Exprs.{below, exprs}
use Rattle.fancy_info.specs.Sized.{size_of}
use Rattle.fancy_info.specs.Infos.{analysis_options_of, node_over, info_tree, info_expr, info_within, EachNode, Facts, tree_over, AreInTurn, IsAnalysed}
use Rattle.fancy_expr.specs.Each.{Each}
use Rattle.fancy_expr.specs.Walk.{start_inside, within_inside}
use Rattle.fancy_analysis.specs.Rounds.{Agree}
use Rattle.fancy_meaning.specs.Numbering.{numbered_within}
use Rattle.fancy_meaning.specs.Tree as plain
use Rattle.fancy_expr.specs.declared.expr.Absent.TheVariants as code_absent
use Rattle.fancy_expr.specs.declared.expr.Expr.TheVariants as code

abbrev pub nth_size : List Size → ℕ → Size
nth_size sizes i = slice_index_or sizes i (exactly 0)

abbrev pub absent_size : Absent → List Size → Size
absent_size (code_absent.Repeater' b e) sizes = between 0 usize_max
absent_size (code_absent.Expression' b a c e) sizes = record (nth_size sizes 1) { is_const = false }
absent_size (code_absent.Stopper' b e) sizes = exactly 0
absent_size code_absent.Clear sizes = exactly 0

-- a node's size by those of its children
abbrev pub size_over : Known → Expr → List Size → Size
size_over known (code.Literal val casei) sizes = exactly 1
size_over known (code.Any newline crlf) sizes = exactly 1
size_over known (code.Delegate inner casei) sizes = exactly 1
size_over known (code.GeneralNewline unicode) sizes = between 1 2
size_over known (code.LiteralBytes bytes) sizes = exactly (length bytes.items)
size_over known (code.Concat' shape es) sizes = sum_of sizes
size_over known (code.Alt' shape es) sizes = any_of sizes
size_over known (code.Repeat' b e lo hi greedy) sizes = times lo (bound_of hi) (nth_size sizes 0)
size_over known (code.Group' b e) sizes = nth_size sizes 0
size_over known (code.AtomicGroup' b e) sizes = nth_size sizes 0
size_over known (code.Conditional' b c d t x f) sizes =
    either (plus (nth_size sizes 0) (nth_size sizes 1)) (nth_size sizes 2)
size_over known (code.Absent a) sizes = absent_size a sizes
size_over known (code.Backref g casei) sizes = size_of_group known g
size_over known (code.BackrefWithRelativeRecursionLevel g level casei) sizes = size_of_group known g
size_over known (code.SubroutineCall g) sizes = size_of_target known g
size_over known e sizes = exactly 0

abbrev pub some_true : List Bool → Bool
some_true [] = false
some_true (b ∷ bs) = b || some_true bs

abbrev pub first_true : List Bool → Bool
first_true [] = false
first_true (b ∷ bs) = b

abbrev pub is_hard_by_size : AnalysisOptions → Size → Bool
is_hard_by_size options s = (options.leftmost_longest || (options.find_not_empty && s.least == 0)) && not s.is_const

-- a node's hardness by that of its children
abbrev pub hard_over : AnalysisOptions → Expr → plain.Within → Size → Bool → List Bool → Bool
hard_over options code.Empty w s read hards = false
hard_over options (code.Any newline crlf) w s read hards = false
hard_over options (code.Literal val casei) w s read hards = false
hard_over options (code.Delegate inner casei) w s read hards = false
hard_over options (code.DefineGroup' b e) w s read hards = false
hard_over options (code.Assertion x) w s read hards =
    is_hard_assertion (record { tree = plain.Empty; options = options }) w (assertion_of x)
hard_over options (code.Concat' shape es) w s read hards = some_true hards || is_hard_by_size options s
hard_over options (code.Alt' shape es) w s read hards = some_true hards || is_hard_by_size options s
hard_over options (code.Group' b e) w s read hards = read || first_true hards || is_hard_by_size options s
hard_over options (code.Repeat' b e lo hi greedy) w s read hards = first_true hards || is_hard_by_size options s
hard_over options e w s read hards = true

-- the flag of a group among those that say which are read
abbrev pub read_flag : List Bool → Expr → ℕ → Bool
read_flag reads (code.Group' b e) n = slice_index_or reads n false
read_flag reads e n = false

-- the size of a node under its number, if it is a group
abbrev pub set_size : Expr → ℕ → Size → List Size → List Size
set_size (code.Group' b e) n s table = slice_set table n s
set_size e n s table = table

-- the same by the node of the tree
abbrev pub with_size : Known → List Size → Tree → List Size
with_size known table (Group g e) = slice_set table g (size_by known e)
with_size known table e = table

-- and of all groups of a tree
abbrev pub with_sizes : Known → List Size → Tree → List Size
with_sizes known table t = fold (with_size known) table (nodes t)

abbrev pub tables_known : VisitTables → Known
tables_known t = map size_of t.known.now

-- the size of a node over its children is right
pub record IsSizedNode (known : Known) (f : Facts) (children : List Info) : Type 0 where
  pub size : f.size ≡ size_by known (tree_over f children)
  pub arity : length children ≡ length (below f.expr)

-- the size of each node is right
abbrev pub IsSized : Known → Info → Type 0
IsSized known = EachNode (IsSizedNode known)

-- what the walk goes by is that of the analysis, but for the sizes by number
pub record Suits (a : Analysis) (t : VisitTables) : Type 0 where
  pub options : analysis_options_of t.context ≡ a.options
  pub reads : (g : ℕ) → slice_index_or t.reads.now g false ≡ is_read a.tree g

-- a node that was made over its children; its size is right by all sizes that agree on the number that it names
pub record IsMadeNode (t : VisitTables) (e : Expr) (start end : ℕ) (w : plain.Within) (children : List Info)
    (info : Info) : Type 0 where
  pub expr : info_expr info ≡ e
  pub tree : info_tree info ≡ node_over e start w (trees (map info_tree children))
  pub start_group : (out-Info info).start_group ≡ start
  pub end_group : (out-Info info).end_group ≡ end
  pub within : info_within info ≡ w
  pub size : (known : Known) → Agree (tables_known t) known (e ∷ []) → length children ≡ length (below e) →
      Each (IsSized known) children → IsSized known info
  pub found : (a : Analysis) → Suits a t → Agree (tables_known t) (known_of a.tree) (e ∷ []) →
      length children ≡ length (below e) → map info_expr children ≡ below e →
      Each (IsSized (known_of a.tree)) children → Each (IsAnalysed a) children →
      AreInTurn (within_inside e w) (start_inside e start) children →
      end ≡ start + group_count (info_tree info) → IsAnalysed a info

pub record IsVisited (t : VisitTables) (e : Expr) (start : ℕ) (w : plain.Within) (info : Info) : Type 0 where
  pub expr : info_expr info ≡ e
  pub tree : info_tree info ≡ numbered_within w start (tree_of e)
  pub start_group : (out-Info info).start_group ≡ start
  pub end_group : (out-Info info).end_group ≡ start + group_count (tree_of e)
  pub within : info_within info ≡ w
  -- by all sizes that agree on the numbers that are named
  pub size : (known : Known) → Agree (tables_known t) known (exprs e) → IsSized known info
  pub found : (a : Analysis) → Suits a t → Agree (tables_known t) (known_of a.tree) (exprs e) → IsAnalysed a info
