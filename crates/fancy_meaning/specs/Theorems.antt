-- The theorems on programs, as types.
use Rattle.std.specs.Prelude.{◌≡◌, ◌≢◌, ◌↔◌, ℕ, ◌*◌, ◌+◌, ◌≤◌, ◌⊎◌, Bool, true, false, ◌&&◌, ◌||◌, not, List, length, flat_map, Contains, Option, Some, None, IsTrue, IsFalse, if◌then◌else◌, ◌==◌, slice_get}
use Rattle.fancy_meaning.specs.Tree.{Tree, parts, Group, DefineGroup}
use Rattle.fancy_meaning.specs.Nodes.{nodes, group_count, is_read}
use Rattle.fancy_meaning.specs.OpenCalls.{Depths, free_calls}
use Rattle.fancy_meaning.specs.MatchState.{MatchState, Ways}
use Rattle.fancy_meaning.specs.Ways.{Setting, ways}
use Rattle.fancy_meaning.specs.Answer.{search_of, starts, answer}
use Rattle.fancy_meaning.specs.Options.{Plan, RunOptions}
use Rattle.fancy_meaning.specs.Hard.{is_hard, is_root_hard}
use Rattle.fancy_meaning.specs.Instr.{Prog, ContinueFromPreviousMatchEnd}
use Rattle.fancy_meaning.specs.Code.{Code}
use Rattle.fancy_meaning.specs.Layout.{written, in_context, root_code, called_code, first_fresh, layout, undelegated_layout}
use Rattle.fancy_meaning.specs.AnalysisRefusals.{CompileError, AnalysisRefuses}
use Rattle.fancy_meaning.specs.CompileRefusals.{IsWritten, IsAmong}
use Rattle.fancy_meaning.specs.Config.{Config, Outcome, Match, NoMatch, BacktrackLimitExceeded, StackOverflow, StepLimitExceeded, outcome_of, Goes}
use Rattle.fancy_meaning.specs.Machine.{Task, gives_up, Reaches, run}
use Rattle.fancy_meaning.specs.Fits.{program_fits}
use Rattle.fancy_meaning.specs.Marks.{has_marked_continue}
use Rattle.fancy_meaning.specs.Keys.{Key, whole_key, key, easy_key, Coarser, EqualUpTo, Respects}
use Rattle.fancy_meaning.specs.Enumerates.{IsLimit, PartBounds, HasAt, Stands, GoesOn, Enumerates}
use Rattle.fancy_meaning.specs.Premises.{Analysed, analysis, tree_of, Input, plan, IsAccepted, IsText, IsFit, IsSoundState}

-- ---- a program that the machine takes

-- Both programs of a tree that its analysis doesn't refuse fit the machine, under all options.
abbrev pub LayoutsFit : Type 0
LayoutsFit = (i : Input) → ((error : CompileError) → ¬ AnalysisRefuses i.parsed i.analysis error) →
    IsTrue (program_fits (undelegated_layout (plan i))) × IsTrue (program_fits (layout (plan i)))

-- the tree is accepted with its program, and without delegates
abbrev pub HasProgram : Input → Type 0
HasProgram i = IsAccepted i (length (layout (plan i)).body)

abbrev pub HasUndelegatedProgram : Input → Type 0
HasUndelegatedProgram i = IsAccepted i (length (undelegated_layout (plan i)).body)

-- ---- a run answers what the tree means

-- a run of the program passes a limit, or gives the answer of the plain meaning
abbrev pub Answers : Plan → Prog → List ℕ → RunOptions → Type 0
Answers p program text o =
    let outcome = run (record { program = program; text = text; options = o }) in
    IsLimit outcome ⊎ (outcome ≡ outcome_of (answer (search_of p text o)))

-- the headline: each run of an accepted tree's program does
abbrev pub Headline : Type 0
Headline = (i : Input) (text : List ℕ) (o : RunOptions) → HasProgram i → IsFit i text o →
    Answers (plan i) (layout (plan i)) text o

-- the same without delegates
abbrev pub UndelegatedHeadline : Type 0
UndelegatedHeadline = (i : Input) (text : List ℕ) (o : RunOptions) →
    HasUndelegatedProgram i → IsFit i text o →
    Answers (plan i) (undelegated_layout (plan i)) text o

-- For this text and start some number of instructions is enough: no step limit from there on is passed.
abbrev pub HasEnough : Prog → List ℕ → RunOptions → Type 0
HasEnough program text o =
    (enough : ℕ) × ((limit : ℕ) → enough ≤ limit →
    run (record { program = program; text = text; options = record o { step_limit = limit } }) ≢ StepLimitExceeded)

-- each run of an accepted tree's program ends
abbrev pub RunsEnd : Type 0
RunsEnd = (i : Input) (text : List ℕ) (o : RunOptions) → HasProgram i → IsFit i text o →
    HasEnough (layout (plan i)) text o

-- the same without delegates
abbrev pub UndelegatedRunsEnd : Type 0
UndelegatedRunsEnd = (i : Input) (text : List ℕ) (o : RunOptions) →
    HasUndelegatedProgram i → IsFit i text o → HasEnough (undelegated_layout (plan i)) text o

-- ---- the answer that a `\G` gives early

-- a marked `\G` stands here, does not hold, and gives up the search
pub record GivesUp (t : Task) (c : Config) : Type 0 where
  pub at_start : Bool
  pub stands : slice_get (t.program).body c.pc ≡ Some (ContinueFromPreviousMatchEnd at_start)
  pub fails : (c.ix == t.pos && t.continued) ≡ false
  pub is_last : gives_up t at_start c ≡ true

-- Where a run comes to that, the longest match so far is the answer. Where the longest is not asked for there is none so
-- far, and no start that is tried has an admitted way.
abbrev pub GivesUpRightly : Plan → Prog → List ℕ → RunOptions → Type 0
GivesUpRightly p program text o =
    let t : Task = record { program = program; text = text; options = o } in
    (n : ℕ) (c : Config) → Reaches t n c → GivesUp t c → answer (search_of p text o) ≡ c.longest

-- So it is in each run of an accepted tree's program, with delegates and without.
abbrev pub EarlyNone : Type 0
EarlyNone = (i : Input) (text : List ℕ) (o : RunOptions) → IsFit i text o →
    (HasProgram i → GivesUpRightly (plan i) (layout (plan i)) text o)
    × (HasUndelegatedProgram i → GivesUpRightly (plan i) (undelegated_layout (plan i)) text o)

-- ---- a node enumerates its ways

-- code stands in a program where a configuration is, and its slots are those from `fresh` on
abbrev pub part_bounds : Code → Config → ℕ → PartBounds
part_bounds code c fresh =
    let laid = code c.pc fresh in
    record { entry = c; exit = c.pc + length laid.instrs; taken_from = fresh; taken_to = laid.fresh }

-- the program has the groups and options of the plan
pub record IsProgramFor (p : Plan) (program : Prog) : Type 0 where
  pub total_groups : program.total_groups ≡ group_count p.analysis.tree
  pub implicit_group_0 : program.explicit_group_0 ≡ false
  pub end_text : program.end_text ≡ p.end_text
  pub unicode : program.unicode ≡ p.unicode

-- A `\G` in the code of the node may give up the search: the tree begins with one, or the node does where a match
-- begins.
abbrev pub may_give_up : Tree → Tree → Bool → Bool
may_give_up whole e at_start = has_marked_continue whole whole || (at_start && has_marked_continue whole e)

abbrev pub setting_of : Plan → Task → Setting
setting_of p t = (search_of p t.text t.options).setting

-- The code stands where the configuration is, in a program for the plan, and the configuration is a sound state's.
-- Where a `\G` in the code may give up the search, it stands above branches where none does.
pub record Enters (p : Plan) (code : Code) (may_stop : Bool) (t : Task) (c : Config) (fresh : ℕ)
    (s : MatchState) : Type 0 where
  pub program : IsProgramFor p t.program
  pub text : IsText t.text
  pub code_is_there : HasAt (t.program).body c.pc (code c.pc fresh).instrs
  pub slots_are_fresh : first_fresh p ≤ fresh
  pub goes_on : may_stop ≡ true → GoesOn t c
  pub stands : Stands t c s
  pub sound : IsSoundState (setting_of p t) p.analysis.tree s

-- Wherever the code stands, it enumerates from each sound state a list equal up to the key to what these ways give.
-- The key may depend on a place at or before the state's.
abbrev pub RefinesUpTo : Plan → Code → (Setting → Ways) → (ℕ → Key) → Bool → Type 0
RefinesUpTo p code w by may_stop = (t : Task) (c : Config) (fresh : ℕ) (s : MatchState) (from : ℕ) →
    Enters p code may_stop t c fresh s → from ≤ s.place →
    (hs : List MatchState) × Enumerates t (part_bounds code c fresh) c.longest (Goes c) hs × EqualUpTo (by from) hs (w (setting_of p t) s)

-- the code of a call, where these calls are open
abbrev pub code_of_call : Plan → (Tree → Bool) → Depths → ℕ → Bool → Code
code_of_call p easy depths = called_code p easy (free_calls p.analysis.tree depths) depths

-- of the root, as the program has it, and as a call of 0 writes it
abbrev pub code_of_root : Plan → (Tree → Bool) → Depths → (in_hard : Bool) → Code
code_of_root p easy depths in_hard = root_code p easy (code_of_call p easy depths) in_hard

-- of a node in its context, by whether a match begins with it
abbrev pub code_of_node : Plan → (Tree → Bool) → Depths → Tree → (at_start in_hard : Bool) → Code
code_of_node p easy depths e at_start in_hard =
    in_context p easy e (written p easy (code_of_call p easy depths) e at_start) in_hard

-- The code of the root refines the ways of the whole tree, and that of each node that is written out the node's,
-- by the key of their context.
pub record AllRefine (p : Plan) (easy : Tree → Bool) (by : (in_hard : Bool) → ℕ → Key) : Type 0 where
  pub root : (depths : Depths) (in_hard : Bool) →
      let whole = p.analysis.tree in
      RefinesUpTo p (code_of_root p easy depths in_hard) (λ q. ways q whole whole depths) (by in_hard)
      (has_marked_continue whole whole)
  pub node : (e : Tree) (depths : Depths) (at_start in_hard : Bool) →
      let whole = p.analysis.tree in
      IsWritten whole e →
      RefinesUpTo p (code_of_node p easy depths e at_start in_hard) (λ q. ways q whole e depths) (by in_hard)
      (may_give_up whole e at_start)

-- The composed theorem: with every node taken for hard, the code of the root and of each node that is written out enumerates
-- its ways, the same states in the same order, up to repeats.
abbrev pub ComposedTheorem : Type 0
ComposedTheorem = (i : Input) →
    let p = plan i in
    HasUndelegatedProgram i →
    AllRefine p (λ e. false) (λ in_hard from. whole_key p.analysis.tree)

-- Delegation is harmless: in a hard context the code of the root and of each node that is written out enumerates a list that
-- equals its ways up to the key, and in an easy one up to the easy key.
abbrev pub DelegationIsHarmless : Type 0
DelegationIsHarmless = (i : Input) →
    let p = plan i in
    HasProgram i →
    AllRefine p (λ e. not (is_hard p.analysis e)) (λ in_hard from. if in_hard then key p else easy_key p from)

-- ---- what carries it

-- ways respect the key
abbrev pub WaysRespectTheKey : Type 0
WaysRespectTheKey = (p : Plan) (q : Setting) (e : Tree) (depths : Depths) → Contains (nodes p.analysis.tree) e →
    Respects (key p) (ways q p.analysis.tree e depths)

-- binding keeps lists equal up to the key
abbrev pub BindingKeepsEquality : Type 0
BindingKeepsEquality = (fine coarse : Key) (hs qs : List MatchState) (f k : Ways) → Coarser fine coarse →
    EqualUpTo fine hs qs → Respects fine f → ((s : MatchState) → EqualUpTo coarse (k s) (f s)) →
    EqualUpTo coarse (flat_map k hs) (flat_map f qs)

-- what is equal up to a key is equal up to a coarser one
abbrev pub CoarserKeyKeepsEquality : Type 0
CoarserKeyKeepsEquality = (fine coarse : Key) (hs qs : List MatchState) → Coarser fine coarse →
    EqualUpTo fine hs qs → EqualUpTo coarse hs qs

-- a part of e outside of definitions
pub data IsPartOf (e : Tree) : Tree → Type 0 where
  itself : IsPartOf e e
  below : {c d : Tree} → IsPartOf e d → ((b : Tree) → d ≢ DefineGroup b) → IsAmong c (parts d) → IsPartOf e c

-- what is delegated has no group that is read
abbrev pub EasyHasNoReadGroup : Type 0
EasyHasNoReadGroup = (p : Plan) (e body : Tree) (g : ℕ) → IsFalse (is_hard p.analysis e) → IsPartOf e (Group g body) →
    is_read p.analysis.tree g ≡ false

-- where a match has to take something, all ways of an easy node agree on whether they moved
abbrev pub EasyWaysAgree : Type 0
EasyWaysAgree = (q : Setting) (a : Analysed) (e : Tree) (depths : Depths) (s t u : MatchState) →
    let whole = tree_of a in
    IsText q.text → Contains (nodes whole) e → IsFalse (is_hard (analysis a) e) →
    (a.options).find_not_empty ≡ true → IsSoundState q whole s →
    Contains (ways q whole e depths s) t → Contains (ways q whole e depths s) u →
    (t.place ≡ s.place) ↔ (u.place ≡ s.place)

-- ---- bounds, where the whole tree is easy

abbrev pub EasyRun : Input → List ℕ → RunOptions → Type 0
EasyRun i text o = HasProgram i × IsFit i text o × IsFalse (is_root_hard (plan i).analysis)

-- how many starts a run may try
abbrev pub tried : Input → List ℕ → RunOptions → ℕ
tried i text o = length (starts (search_of (plan i) text o))

abbrev pub task : Input → List ℕ → RunOptions → Task
task i text o = record { program = layout (plan i); text = text; options = o }

abbrev pub outcome : Input → List ℕ → RunOptions → Outcome
outcome i text o = run (task i text o)

-- At most one branch is held, whatever the limits are, so the branches never are too many.
abbrev pub BranchBound : Type 0
BranchBound = (i : Input) (text : List ℕ) (o : RunOptions) → EasyRun i text o →
    ((n : ℕ) (c : Config) → Reaches (task i text o) n c → length c.branches ≤ 1) × (outcome i text o ≢ StackOverflow)

-- one backtrack for each start is enough
abbrev pub BacktrackBound : Type 0
BacktrackBound = (i : Input) (text : List ℕ) (o : RunOptions) → EasyRun i text o → tried i text o ≤ o.backtrack_limit →
    outcome i text o ≢ BacktrackLimitExceeded

-- eight instructions for each start are enough
abbrev pub InstructionBound : Type 0
InstructionBound = (i : Input) (text : List ℕ) (o : RunOptions) → EasyRun i text o → 8 * tried i text o ≤ o.step_limit →
    outcome i text o ≢ StepLimitExceeded
