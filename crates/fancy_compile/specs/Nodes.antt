-- What writing a node does.
use Rattle.std.specs.Prelude.{◌≡◌, ℕ, ◌+◌, ◌-◌, ◌*◌, ◌≤◌, Bool, true, false, not, ◌&&◌, nat_eq, List, [], ◌∷◌, map, length, Option, option_map, slice_index_or, nat_lt}
use Rattle.std.specs.List.{list_any}
use Rattle.fancy_meaning.specs.Tree as plain
use Rattle.fancy_meaning.specs.Tree.{Tree, Trees, trees}
use Rattle.fancy_expr.specs.declared.expr.Absent.{Absent}
use Rattle.fancy_expr.specs.declared.expr.Absent.TheVariants as code_absent
use Rattle.fancy_meaning.specs.Code.{Code, nothing, one, in_turn, branches}
use Rattle.fancy_meaning.specs.Instr.{Instr}
use Rattle.fancy_meaning.specs.Hard.{is_root_hard}
use Rattle.fancy_meaning.specs.Constructs.{conditional_code, negative_look_code}
use Rattle.fancy_meaning.specs.Marks.{takes_nothing, marked_groups}
use Rattle.fancy_meaning.specs.Layout.{called_code}
use Rattle.fancy_meaning.specs.Nodes.{groups}
use Rattle.fancy_meaning.specs.Batches.{batch}
use Rattle.fancy_nfa.specs.Neighbours.{IsEasy}
use Rattle.fancy_nfa.specs.Nfas.{AreFine}
use Rattle.fancy_meaning.specs.OpenCalls.{Depths, free_calls}
use Rattle.fancy_meaning.specs.Sizes.{size}
use Rattle.fancy_meaning.specs.Options.{Analysis}
use Rattle.fancy_code.specs.Sites.{Site, HasRoom, within_node}
use Rattle.fancy_info.specs.declared.info.Info.{Info}
use Rattle.fancy_info.specs.Infos.{info_tree, info_hard, AreInTurn, IsAnalysed}
use Rattle.fancy_info.specs.NodeCounts.{node_count, node_counts}
use Rattle.fancy_expr.specs.Each.{Each}
use Rattle.fancy_compile.specs.declared.scope.Scope.{Scope}
use Rattle.fancy_compile.specs.OpenDepths.{depths_of}
use Rattle.fancy_code.specs.Arounds.{around_code, behind, not_behind}
use Rattle.fancy_code.specs.Drafts.{Draft, Writes, code_in, written_code, is_easy, node_code}
use Rattle.fancy_compile.specs.AnalysedNodes.{IsKnown, IsFineTree}
use Rattle.fancy_compile.specs.GroupTables.{AreNumbered, IsEntry, group_node}

-- What a scope says of the whole tree: it has the root, and the groups in order of their numbers.
pub record IsScopeOf (a : Analysis) (scope : Scope) : Type 0 where
  pub tree : info_tree scope.root.now ≡ a.tree
  pub root : IsKnown a scope.root.now
  pub hard : info_hard scope.root.now ≡ is_root_hard a
  pub fine : IsFineTree (info_tree scope.root.now)
  pub nodes : map (λ b. info_tree b.now) scope.groups.now.nodes.items ≡ map group_node (groups a.tree)
  pub numbers : AreNumbered scope.groups.now.first (groups a.tree)
  pub known : Each (IsEntry a (node_count scope.root.now)) scope.groups.now.nodes.items
  pub starts : (k : ℕ)
      → slice_index_or scope.groups.now.starts.items k false
      ≡ (nat_lt k (length scope.groups.now.nodes.items) && list_any (nat_eq (scope.groups.now.first + k))
      (marked_groups a.tree a.tree))

-- a scope for an analysed tree
abbrev pub IsScope : Scope → Type 0
IsScope scope = (a : Analysis) × IsScopeOf a scope

-- the node is one of the scope's tree
pub record IsWhole (scope : Scope) (i : Info) : Type 0 where
  pub analysis : Analysis
  pub of_tree : IsScopeOf analysis scope
  pub known : IsKnown analysis i
  pub small : node_count i ≤ node_count scope.root.now
  pub fine : IsFineTree (info_tree i)

-- neighbours of the scope's tree
pub record AreWhole (scope : Scope) (is : List Info) : Type 0 where
  pub analysis : Analysis
  pub of_tree : IsScopeOf analysis scope
  pub each : Each (IsAnalysed analysis) is
  pub small : node_counts is ≤ node_count scope.root.now
  pub fine : AreFine (map info_tree is)
  pub within : plain.Within
  pub first : ℕ
  pub in_turn : AreInTurn within first is

-- the plan, the open calls, the room, and the code of calls, of a scope
pub record IsScopeAt (p : Site) (call : ℕ → Bool → Code) (scope : Scope) : Type 0 where
  pub unicode : p.unicode ≡ scope.unicode
  pub of_tree : IsScopeOf p.analysis scope
  pub depths : p.depths ≡ depths_of scope.calls
  pub room : p.room ≡ scope.room
  -- so many more calls may be opened, at least
  pub budget : ℕ
  pub enough : free_calls p.analysis.tree p.depths ≤ budget
  pub calls : call ≡ called_code p.plan (is_easy p.analysis) budget p.depths

-- the scope of what stands in a node
abbrev pub below_node : Scope → Scope
below_node scope = record scope { room = option_map (λ n. n - 1) scope.room }

-- the node is written out, by the scope of what stands in it
abbrev pub WritesOut : Scope → Info → (at_start in_hard : Bool) → Draft → Draft → Type 0
WritesOut scope i at_start in_hard s t =
    (p : Site) (call : ℕ → Bool → Code)
    → HasRoom p
    → IsScopeAt (within_node p) call scope
    → IsKnown p.analysis i
    → Writes p (written_code p call (info_tree i) at_start in_hard) (info_tree i ∷ []) s t

-- the node is written in its context
abbrev pub WritesNode : Scope → Info → (at_start in_hard : Bool) → Draft → Draft → Type 0
WritesNode scope i at_start in_hard s t =
    (p : Site) (call : ℕ → Bool → Code)
    → IsScopeAt p call scope
    → IsKnown p.analysis i
    → Writes p (code_in p call (not (info_hard i)) (info_tree i) at_start in_hard) (info_tree i ∷ []) s t

-- ---- neighbours and branches

-- neighbouring easy nodes are one instruction, where there is room for them
abbrev pub WritesBatchIn : Scope → List Info → Draft → Draft → Type 0
WritesBatchIn scope is s t =
    (p : Site)
    → p.unicode ≡ scope.unicode
    → p.room ≡ scope.room
    → Each (IsEasy p.analysis) is
    → Writes p (batch p.unicode (map info_tree is)) (map info_tree is) s t

-- the codes of neighbours, each in a hard context
abbrev pub codes_in_turn : Site → (ℕ → Bool → Code) → (at_start : Bool) → List Tree → List Code
codes_in_turn p call at_start [] = []
codes_in_turn p call at_start (e ∷ es) =
    node_code p call e at_start true ∷ codes_in_turn p call (at_start && takes_nothing p.analysis.tree e) es

-- a branch, which may be looked for behind the place
abbrev pub branch_over : (is_behind : Bool) → ℕ → Code → Code
branch_over true least body = around_code (behind least) body
branch_over false least body = body

-- the codes of branches
abbrev pub codes_of_branches : Site → (ℕ → Bool → Code) → (is_behind in_hard : Bool) → List Tree → List Code
codes_of_branches p call is_behind in_hard [] = []
codes_of_branches p call is_behind in_hard (e ∷ es) =
    branch_over is_behind (size p.analysis.tree e).least (node_code p call e false in_hard)
    ∷ codes_of_branches p call is_behind in_hard es

-- the codes of neighbours none of which may stand behind the place
abbrev pub codes_of_none : Site → (ℕ → Bool → Code) → List Tree → List Code
codes_of_none p call [] = []
codes_of_none p call (e ∷ es) =
    around_code (not_behind (size p.analysis.tree e).least) (node_code p call e false false)
    ∷ codes_of_none p call es

-- neighbours are written as the children of a concatenation
abbrev pub WritesConcat : Scope → List Info → (at_start in_hard : Bool) → Draft → Draft → Type 0
WritesConcat scope is at_start in_hard s t =
    (p : Site) (call : ℕ → Bool → Code)
    → IsScopeAt p call scope
    → Each (IsAnalysed p.analysis) is
    → Writes p (written_code p call (plain.Concat (trees (map info_tree is))) at_start in_hard) (map info_tree is) s t

abbrev pub WritesInTurn : Scope → List Info → Bool → Draft → Draft → Type 0
WritesInTurn scope is at_start s t =
    (p : Site) (call : ℕ → Bool → Code)
    → IsScopeAt p call scope
    → Each (IsAnalysed p.analysis) is
    → Writes p (in_turn (codes_in_turn p call at_start (map info_tree is))) (map info_tree is) s t

abbrev pub WritesBranches : (is_behind in_hard : Bool) → Scope → List Info → Draft → Draft → Type 0
WritesBranches is_behind in_hard scope is s t =
    (p : Site) (call : ℕ → Bool → Code)
    → IsScopeAt p call scope
    → Each (IsAnalysed p.analysis) is
    → Writes p (branches (codes_of_branches p call is_behind in_hard (map info_tree is))) (map info_tree is) s t

abbrev pub WritesNoneBehind : Scope → List Info → Draft → Draft → Type 0
WritesNoneBehind scope is s t =
    (p : Site) (call : ℕ → Bool → Code)
    → IsScopeAt p call scope
    → Each (IsAnalysed p.analysis) is
    → Writes p (in_turn (codes_of_none p call (map info_tree is))) (map info_tree is) s t

-- ---- nodes over others

-- code that is made of that of one node
abbrev pub WritesOver : (Code → Code) → Scope → Info → (at_start in_hard : Bool) → Draft → Draft → Type 0
WritesOver over scope i at_start in_hard s t =
    (p : Site) (call : ℕ → Bool → Code)
    → IsScopeAt p call scope
    → IsAnalysed p.analysis i
    → Writes p (over (node_code p call (info_tree i) at_start in_hard)) (info_tree i ∷ []) s t

abbrev pub WritesConditional : Scope → Info → Info → Info → (in_hard : Bool) → Draft → Draft → Type 0
WritesConditional scope c d e in_hard s t =
    (p : Site) (call : ℕ → Bool → Code)
    → IsScopeAt p call scope
    → IsAnalysed p.analysis c
    → IsAnalysed p.analysis d
    → IsAnalysed p.analysis e
    → Writes
    p
    (conditional_code
    (node_code p call (info_tree c) false in_hard)
    (node_code p call (info_tree d) false in_hard)
    (node_code p call (info_tree e) false in_hard))
    (info_tree c ∷ info_tree d ∷ info_tree e ∷ [])
    s
    t

-- a node over one other, which is made so, by the scope of what stands in it
abbrev pub WritesParent : (Tree → Tree) → Scope → Info → (in_hard : Bool) → Draft → Draft → Type 0
WritesParent made scope i in_hard s t =
    (p : Site) (call : ℕ → Bool → Code) (at_start : Bool)
    → HasRoom p
    → IsScopeAt (within_node p) call scope
    → IsAnalysed p.analysis i
    → Writes p (written_code p call (made (info_tree i)) at_start in_hard) (made (info_tree i) ∷ []) s t

-- in whichever context it stands
abbrev pub WritesLook : plain.Look → Scope → Info → Draft → Draft → Type 0
WritesLook look scope i s t = (in_hard : Bool) → WritesParent (λ e. plain.LookAround look e) scope i in_hard s t

abbrev pub WritesRepeat : ℕ → Option ℕ → Bool → Scope → Info → (in_hard : Bool) → Draft → Draft → Type 0
WritesRepeat lo hi greedy = WritesParent (λ e. plain.Repeat lo hi greedy e)

-- ---- lookbehinds

abbrev pub look_behind : (negative : Bool) → plain.Look
look_behind true = plain.LookBehindNeg
look_behind false = plain.LookBehind

-- ---- what must not be there

abbrev pub is_repeater : Absent → Bool
is_repeater (code_absent.Repeater' b e) = true
is_repeater a = false

-- one character where the body has no way
abbrev pub step_past : Code → Code
step_past body = conditional_code (negative_look_code body) (one Instr.Any) nothing

abbrev pub WritesAbsent : Scope → Info → Draft → Draft → Type 0
WritesAbsent scope i s t = (in_hard : Bool) → WritesParent plain.AbsentRepeater scope i in_hard s t

-- ---- calls

abbrev pub WritesCall : Scope → ℕ → (in_hard : Bool) → Draft → Draft → Type 0
WritesCall scope g in_hard s t =
    (p : Site) (call : ℕ → Bool → Code) (at_start : Bool)
    → HasRoom p
    → IsScopeAt (within_node p) call scope
    → Writes p (written_code p call (plain.SubroutineCall g) at_start in_hard) (plain.SubroutineCall g ∷ []) s t

-- ---- how far there is to go

-- the calls that may still be opened weigh more than the whole tree
unfoldable pub work_by : Info → Depths → ℕ
work_by root depths = (8 * node_count root + 16) * free_calls (info_tree root) depths

abbrev pub work : Scope → ℕ
work scope = work_by scope.root.now (depths_of scope.calls)
