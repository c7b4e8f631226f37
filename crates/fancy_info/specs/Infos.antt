-- The views of an `Info`: the tree that it stands for, and the facts that it says of each node.
use Rattle.std.specs.Prelude.{◌≡◌, ℕ, zero, suc, ◌+◌, Bool, false, List, [], ◌∷◌, map, length, if◌then◌else◌}
use Rattle.fancy_meaning.specs.Tree as plain
use Rattle.fancy_meaning.specs.Tree.{Tree, Trees, none, more, trees}
use Rattle.fancy_meaning.specs.Nodes.{group_count, is_read}
use Rattle.fancy_meaning.specs.Options.{Analysis, AnalysisOptions}
use Rattle.fancy_meaning.specs.Sizes as plain_sizes
use Rattle.fancy_meaning.specs.Sizes.{size}
use Rattle.fancy_meaning.specs.Hard.{is_hard, is_root_hard}
use Rattle.fancy_info.specs.declared.context.AnalyzeContext.{AnalyzeContext}
use Rattle.fancy_info.specs.declared.info.Info.{Info}
use Rattle.fancy_info.specs.declared.info.Info.TheOpen.{Info-F}
use Rattle.fancy_info.specs.declared.info.Info.TheViews.{out-Info}
use Rattle.fancy_info.specs.declared.info.Info.TheFolds.{fold-Info, rec-Info}
use Rattle.fancy_expr.specs.declared.expr.Absent.{Absent}
use Rattle.fancy_expr.specs.declared.expr.Absent.TheVariants as code_absent
use Rattle.fancy_expr.specs.declared.expr.Expr.{Expr}
use Rattle.fancy_expr.specs.declared.expr.Expr.TheVariants as code
use Rattle.fancy_expr.specs.Views.{tree_of, assertion_of, look_of, bound_of}
use Rattle.fancy_expr.specs.Each.{Each}
use Rattle.fancy_expr.specs.Exprs.{below}
use Rattle.fancy_expr.specs.Walk.{start_inside, within_inside, within_of}
use Rattle.fancy_info.specs.Sized.{size_of}

abbrev pub analysis_options_of : AnalyzeContext → AnalysisOptions
analysis_options_of c = record {
  explicit_capture_group_0 = c.explicit_capture_group_0;
  find_not_empty = c.find_not_empty;
  end_text = c.disallow_empty_match_at_eof_after_newline;
  leftmost_longest = c.leftmost_longest;
}

-- the number of the first group
abbrev pub first_number : AnalysisOptions → ℕ
first_number options = if options.explicit_capture_group_0 then 0 else 1

-- it is a look-around
abbrev pub is_look : plain.Within → Bool
is_look plain.NoLook = false
is_look plain.InLookAhead = Bool.true
is_look plain.InLookBehind = Bool.true

-- the tree with this index, and past the last one a tree that takes nothing
abbrev pub nth : Trees → ℕ → Tree
nth none i = plain.Empty
nth (more e es) zero = e
nth (more e es) (suc i) = nth es i

abbrev pub absent_over : Absent → Trees → Tree
absent_over (code_absent.Repeater' b e) es = plain.AbsentRepeater (nth es 0)
absent_over (code_absent.Expression' b a c e) es = plain.AbsentExpression (nth es 0) (nth es 1)
absent_over (code_absent.Stopper' b e) es = plain.AbsentStopper (nth es 0)
absent_over code_absent.Clear es = plain.AbsentClear

-- a node that begins at this group number, within this, over these children
abbrev pub node_over : Expr → ℕ → plain.Within → Trees → Tree
node_over (code.Assertion a) n w es = plain.Assert w (assertion_of a)
node_over (code.Concat' shape row) n w es = plain.Concat es
node_over (code.Alt' shape row) n w es = plain.Alt es
node_over (code.Group' b e) n w es = plain.Group n (nth es 0)
node_over (code.LookAround' b e look) n w es = plain.LookAround (look_of look) (nth es 0)
node_over (code.Repeat' b e lo hi greedy) n w es = plain.Repeat lo (bound_of hi) greedy (nth es 0)
node_over (code.AtomicGroup' b e) n w es = plain.AtomicGroup (nth es 0)
node_over (code.Conditional' b c d t x f) n w es = plain.Conditional (nth es 0) (nth es 1) (nth es 2)
node_over (code.Absent a) n w es = absent_over a es
node_over (code.DefineGroup' b e) n w es = plain.DefineGroup (nth es 0)
node_over e n w es = tree_of e

abbrev pub tree_step : Info-F Tree → Tree
tree_step i = node_over i.expr.now i.start_group (within_of i.within) (trees i.children.items)

-- the tree that an `Info` stands for, its groups numbered
abbrev pub info_tree : Info → Tree
info_tree = fold-Info Tree tree_step

abbrev pub info_expr : Info → Expr
info_expr i = (out-Info i).expr.now

abbrev pub info_children : Info → List Info
info_children i = (out-Info i).children.items

abbrev pub info_size : Info → plain_sizes.Size
info_size i = size_of (out-Info i).size

abbrev pub info_within : Info → plain.Within
info_within i = within_of (out-Info i).within

abbrev pub info_hard : Info → Bool
info_hard i = (out-Info i).hard

-- each begins where the one before ended, the first one at this number, and all stand within this
abbrev pub AreInTurn : plain.Within → ℕ → List Info → Type 0
AreInTurn w n [] = Unit {0}
AreInTurn w n (i ∷ is) = (info_within i ≡ w) × ((out-Info i).start_group ≡ n) × AreInTurn w (out-Info i).end_group is

-- the group is read somewhere in the tree
abbrev pub is_read_group : Tree → Tree → Bool
is_read_group whole (plain.Group g e) = is_read whole g
is_read_group whole e = false

-- what an `Info` says of its own node
pub record Facts : Type 0 where
  pub expr : Expr
  pub start_group : ℕ
  pub end_group : ℕ
  pub size : plain_sizes.Size
  pub hard : Bool
  pub is_read : Bool
  pub within : plain.Within
  pub options : AnalysisOptions

abbrev pub facts : {X : Type 0} → Info-F X → Facts
facts i = record {
  expr = i.expr.now;
  start_group = i.start_group;
  end_group = i.end_group;
  size = size_of i.size;
  hard = i.hard;
  is_read = i.is_read;
  within = within_of i.within;
  options = analysis_options_of i.context;
}

abbrev pub info_facts : Info → Facts
info_facts i = facts (out-Info i)

-- the node over these children
abbrev pub tree_over : Facts → List Info → Tree
tree_over f children = node_over f.expr f.start_group f.within (trees (map info_tree children))

abbrev pub each_step : (Facts → List Info → Type 0) → (X : Type 0) → (X → Info) → (X → Type 0) → Info-F X → Type 0
each_step P X info_of claim i = P (facts i) (map info_of i.children.items) × Each claim i.children.items

-- what holds of each node and its children
abbrev pub EachNode : (Facts → List Info → Type 0) → Info → Type 0
EachNode P = rec-Info (Type 0) (each_step P)

module _ (a : Analysis) where
  -- what was found of a node over these children, but for its hardness
  pub record IsNode (f : Facts) (children : List Info) : Type 0 where
    pub size : f.size ≡ size a.tree (tree_over f children)
    pub read : f.is_read ≡ is_read_group a.tree (tree_over f children)
    pub arity : length children ≡ length (below f.expr)
    -- the children are the node's own, in order
    pub exprs : map info_expr children ≡ below f.expr
    pub end_group : f.end_group ≡ f.start_group + group_count (tree_over f children)
    pub in_turn : AreInTurn (within_inside f.expr f.within) (start_inside f.expr f.start_group) children
    pub options : f.options ≡ a.options

  pub record IsFound (f : Facts) (children : List Info) : Type 0 where
    pub node : IsNode f children
    pub hard : f.hard ≡ is_hard a (tree_over f children)

  -- what was found of each node
  abbrev pub IsAnalysed : Info → Type 0
  IsAnalysed = EachNode IsFound

  -- what was found of the whole tree
  pub record IsRoot (i : Info) : Type 0 where
    pub tree : info_tree i ≡ a.tree
    pub within : info_within i ≡ plain.NoLook
    pub start_group : (info_facts i).start_group ≡ first_number a.options
    pub node : IsNode (info_facts i) (info_children i)
    pub hard : info_hard i ≡ is_root_hard a
    pub children : Each IsAnalysed (info_children i)
