-- When a tree is refused by its analysis, and as what.
use Rattle.std.specs.Prelude.{◌≡◌, ℕ, ◌+◌, ◌-◌, ◌<◌, Bool, true, false, ◌&&◌, ◌||◌, not, List, [], ◌++◌, Contains, Some, IsTrue, if◌then◌else◌, nat_lt, ◌==◌, slice_get, codes, decimal}
use Rattle.std.specs.Ordering.{nat_cmp, is_le}
use Rattle.std.specs.Cmp.Lexicographic.{slice_cmp}
use Rattle.fancy_meaning.specs.Tree.{Tree, Repeat, Backref, BackrefWithLevel, SubroutineCall, AstNode, UnresolvedCall, UnresolvedOther}
use Rattle.fancy_meaning.specs.Nodes.{nodes, groups, group_count}
use Rattle.fancy_meaning.specs.Options.{ParsedTree, AnalysisOptions, analysis_of}
use Rattle.fancy_meaning.specs.Spots.{Spot, spots}
use Rattle.fancy_meaning.specs.Recursion.{IsLeastLeftRecursive, CanEnd}
use Rattle.fancy_meaning.specs.WellFormed.{Has, refers, is_call}

pub data CompileError : Type 0 where
  NamedBackrefOnly FeatureNotYetSupported SubroutineCallTargetNotFound UnresolvedAstNode : CompileError
  NeverEndingRecursion : CompileError
  VariableLookBehindRequiresFeature PatternTooComplex : CompileError
  InvalidBackref : (group : ℕ) → CompileError
  -- the text describes the group
  LeftRecursiveSubroutineCall : (text : List ℕ) → CompileError
  -- the text is that of a class
  InnerError ClassTooBig : (text : List ℕ) → CompileError

abbrev pub is_back_to : ℕ → Tree → Bool
is_back_to g (Backref h casei) = h == g
is_back_to g e = false

-- a loop that stops first
abbrev pub is_lazy : Tree → Bool
is_lazy (Repeat lo hi greedy e) = not greedy
is_lazy e = false

abbrev pub has_level : Tree → Bool
has_level (BackrefWithLevel g level casei) = true
has_level e = false

-- the nodes of a group's body, and where they stand
abbrev pub spots_in_group : Tree → ℕ → Tree → List Spot
spots_in_group whole g body = spots whole (record { owner = g; position = 0; is_skipped = false }) body

-- In the body of group g, a call of g whose innermost group is g stands before a back reference to g.
pub record ReadsAfterCall (whole : Tree) (g : ℕ) : Type 0 where
  pub body : Tree
  pub is_group : Contains (groups whole) (g, body)
  pub at_call : ℕ
  pub at_read : ℕ
  pub in_order : at_call < at_read
  pub call : Spot
  pub is_there : slice_get (spots_in_group whole g body) at_call ≡ Some call
  pub is_call : call.node ≡ SubroutineCall g
  pub is_own : call.owner ≡ g
  pub read : Spot
  pub casei : Bool
  pub is_read : slice_get (spots_in_group whole g body) at_read ≡ Some read
  pub is_reference : read.node ≡ Backref g casei

-- the name is one of group g
pub record IsNamed (names : List (List ℕ × List ℕ)) (g : ℕ) (name : List ℕ) : Type 0 where
  pub numbers : List ℕ
  pub is_there : Contains names (name, numbers)
  pub has : Contains numbers g

-- the least by bytes of its names
pub record IsLeastName (names : List (List ℕ × List ℕ)) (g : ℕ) (name : List ℕ) : Type 0 where
  pub is_one : IsNamed names g name
  pub least : (other : List ℕ) → IsNamed names g other → IsTrue (is_le (slice_cmp nat_cmp name other))

-- how a target is described
pub data Describes (names : List (List ℕ × List ℕ)) (g : ℕ) : List ℕ → Type 0 where
  by_number : ((name : List ℕ) → ¬ IsNamed names g name) → Describes names g (codes "group " ++ decimal g)
  by_name : {name : List ℕ} → IsLeastName names g name →
      Describes names g (codes "group '" ++ name ++ codes "' (" ++ decimal g ++ codes ")")

module _ (p : ParsedTree) (options : AnalysisOptions) where
  abbrev tree : Tree
  tree = (analysis_of p.tree options).tree

  -- below the first group, or above the last, which is 0 where there is no group
  abbrev pub is_no_group : ℕ → Bool
  is_no_group g =
      let first = if options.explicit_capture_group_0 then 0 else 1 in
      nat_lt g first || nat_lt (first + group_count tree - 1) g

  -- each case but the one that asks whether another holds
  pub data RefusesBeforeEnd : CompileError → Type 0 where
    named_groups_with_numbers : IsTrue (p.numbered_groups_ignored && p.numeric_capture_group_references) →
        ¬ (p.named_groups ≡ []) → RefusesBeforeEnd NamedBackrefOnly
    reference_to_0 : Has tree (is_back_to 0) → RefusesBeforeEnd (InvalidBackref 0)
    reference_after_call : (g : ℕ) → ReadsAfterCall tree g → RefusesBeforeEnd FeatureNotYetSupported
    unresolved_call : Contains (nodes tree) (AstNode UnresolvedCall) → RefusesBeforeEnd SubroutineCallTargetNotFound
    unresolved_node : Contains (nodes tree) (AstNode UnresolvedOther) → RefusesBeforeEnd UnresolvedAstNode
    reference_with_level : Has tree has_level → RefusesBeforeEnd FeatureNotYetSupported
    lazy_loop : IsTrue options.leftmost_longest → Has tree is_lazy → RefusesBeforeEnd FeatureNotYetSupported
    group_out_of_range : (g : ℕ) → Has tree (refers g) → IsTrue (is_no_group g) → RefusesBeforeEnd (InvalidBackref g)
    left_recursion : (g : ℕ) (text : List ℕ) → IsLeastLeftRecursive tree g → Describes p.named_groups g text →
        RefusesBeforeEnd (LeftRecursiveSubroutineCall text)

  -- the error with which `analyze` may refuse, and does refuse with one of them
  pub data AnalysisRefuses : CompileError → Type 0 where
    before_end : {error : CompileError} → RefusesBeforeEnd error → AnalysisRefuses error
    never_ends : Has tree is_call → ¬ CanEnd tree tree → ((error : CompileError) → ¬ RefusesBeforeEnd error) →
        AnalysisRefuses NeverEndingRecursion
