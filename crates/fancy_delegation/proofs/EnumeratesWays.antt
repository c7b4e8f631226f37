-- What is asked of code, by construct: which ways it enumerates from those that its parts enumerate.
use Rattle.std.proofs.Common.{◌≡◌, ◌≢◌, ℕ, suc, ◌<◌, ◌≤◌, Bool, true, false, List, [], ◌∷◌, ◌++◌, map, Option, Some, IfSome}
use Rattle.fancy_meaning.specs.Tree.{Tree, Trees, none, Concat, Alt, Group, LookAround, Repeat, AtomicGroup, AbsentRepeater, Conditional, SubroutineCall}
use Rattle.fancy_meaning.specs.Nodes.{nodes, target}
use Rattle.fancy_meaning.specs.OpenCalls.{Depths, opened, call_depth, free_calls}
use Rattle.fancy_meaning.specs.Places.{chars_between}
use Rattle.fancy_meaning.specs.MatchState.{MatchState, Ways, stays, fails, and_then, one_of}
use Rattle.fancy_meaning.specs.Loops.{repeats}
use Rattle.fancy_meaning.specs.Ways.{Setting, captured, ahead, unless, atomic, conditional, ends_here, absent, ways_with, ways}
use Rattle.fancy_meaning.specs.Options.{CompileOptions}
use Rattle.fancy_meaning.specs.Numbers.{usize_max}
use Rattle.fancy_meaning.specs.Sizes.{Size}
use Rattle.fancy_meaning.specs.Instr.{Instr}
use Rattle.fancy_meaning.specs.Code.{Code, nothing, one, ◌>>◌, branch}
use Rattle.fancy_meaning.specs.Batches.{batch, fragment, pattern_of, group_range}
use Rattle.fancy_meaning.specs.Constructs.{group_code, atomic_code, conditional_code, look_code, negative_look_code, behind_code, loop_form, repeat_code, absent_code}
use Rattle.fancy_meaning.specs.Layout.{written}
use Rattle.fancy_meaning.specs.AnalysisRefusals.{CompileError}
use Rattle.fancy_meaning.specs.Spots.{is_never}
use Rattle.fancy_meaning.specs.CompileRefusals.{IsWritten, RefusesNode}
use Rattle.fancy_meaning.specs.Laws.{SizeLaw}
use Rattle.fancy_meaning.specs.Premises.{Analysed, tree_of, IsText, IsSoundState, IsSized}
use Rattle.fancy_meaning.specs.Marks.{has_marked_continue, is_marked_group}
use Rattle.fancy_laws.proofs.Every.{Every}
use Rattle.fancy_delegation.proofs.Items.{IsIn}
use Rattle.fancy_delegation.proofs.EasyKeeps.{SameEndText}
use Rattle.fancy_delegation.proofs.Evenly.{KeepsSound, TakesSome}
use Rattle.fancy_delegation.proofs.RefinedDelegates.{plan_for, IsDelegated, first_of_batch}

-- nodes without parts that are written out
abbrev pub IsLeaf : Tree → Type 0
IsLeaf (Concat es) = ⊥
IsLeaf (Alt es) = ⊥
IsLeaf (Group g e) = ⊥
IsLeaf (LookAround look e) = ⊥
IsLeaf (Repeat lo hi greedy e) = ⊥
IsLeaf (AtomicGroup e) = ⊥
IsLeaf (Conditional c t f) = ⊥
IsLeaf (AbsentRepeater e) = ⊥
IsLeaf (SubroutineCall g) = ⊥
IsLeaf e = Unit {0}

module _ (a : Analysed) (o : CompileOptions) (q : Setting) where
  -- so many characters each way takes
  abbrev pub SizedBy : Size → Ways → Type 0
  SizedBy z f = (s : MatchState) → IsSoundState q (tree_of a) s → Every (λ t. IsSized z (chars_between q.text s.place t.place)) (f s)

  -- what is known of the nodes of a tree that is accepted
  pub record IsReady : Type 0 where
    pub there : (e : Tree) → IsWritten (tree_of a) e → IsIn e (nodes (tree_of a))
    pub choices : (es : Trees) → IsWritten (tree_of a) (Alt es) → es ≢ none
    pub bounds : (lo : ℕ) (hi : Option ℕ) (greedy : Bool) (e : Tree) → IsWritten (tree_of a) (Repeat lo hi greedy e) →
        (lo < usize_max) × IfSome hi (λ n. (lo ≤ n) × (n < usize_max))
    pub opens : (g : ℕ) (e : Tree) (depths : Depths) → target (tree_of a) g ≡ Some e → depths g < call_depth →
        free_calls (tree_of a) depths ≡ suc (free_calls (tree_of a) (opened g depths))
    pub begins : (g : ℕ) (e : Tree) → target (tree_of a) (suc g) ≡ Some e →
        is_marked_group (tree_of a) (suc g) ≡ true → has_marked_continue (tree_of a) e ≡ true →
        has_marked_continue (tree_of a) (tree_of a) ≡ true
    pub allowed : (e : Tree) (error : CompileError) → IsWritten (tree_of a) e → ¬ RefusesNode (plan_for a o) e error

  -- `Simulates c f` says that the code enumerates what f gives, up to repeats.
  pub record EnumeratesWays (Simulates : Code → Ways → Type 0) (MayStop : Type 0) : Type 0 where
    pub as_ways : (c : Code) (f g : Ways) → ((s : MatchState) → IsSoundState q (tree_of a) s → f s ≡ g s) → Simulates c f → Simulates c g
    pub enumerates_here : Simulates nothing stays
    pub enumerates_none : Simulates (one Instr.Fail) fails
    pub enumerates_next : (c d : Code) (f g : Ways) → KeepsSound q (tree_of a) f → Simulates c f → Simulates d g → Simulates (c >> d) (and_then f g)
    pub enumerates_branch : (c d : Code) (f g : Ways) → Simulates c f → Simulates d g → Simulates (branch c d) (λ s. f s ++ g s)
    pub enumerates_group : (g : ℕ) (e : Tree) (c : Code) (f : Ways) → IsIn (Group g e) (nodes (tree_of a)) → Simulates c f →
        Simulates (group_code g c) (captured g f)
    pub enumerates_first : (c : Code) (f : Ways) → Simulates c f → Simulates (atomic_code c) (atomic f)
    pub enumerates_unless : (c : Code) (f : Ways) → Simulates c f → Simulates (negative_look_code c) (unless f)
    pub enumerates_ahead : (c : Code) (f : Ways) → Simulates c f → Simulates (look_code c) (ahead f)
    pub enumerates_behind : (z : Size) (c : Code) (f : Ways) → z.is_const ≡ true → SizedBy z f →
        KeepsSound q (tree_of a) f → Simulates c f → Simulates (behind_code look_code (z, c)) (ends_here q f)
    pub enumerates_not_behind : (z : Size) (c : Code) (f : Ways) → z.is_const ≡ true → SizedBy z f →
        KeepsSound q (tree_of a) f → Simulates c f → Simulates (behind_code negative_look_code (z, c)) (unless (ends_here q f))
    pub enumerates_choice : (c d x : Code) (f g e : Ways) → KeepsSound q (tree_of a) f → Simulates c f → Simulates d g →
        Simulates x e → Simulates (conditional_code c d x) (conditional f g e)
    pub enumerates_loop : (lo : ℕ) (hi : Option ℕ) (greedy may_be_empty : Bool) (c : Code) (f : Ways) → lo < usize_max →
        IfSome hi (λ n. (lo ≤ n) × (n < usize_max)) → KeepsSound q (tree_of a) f →
        (may_be_empty ≡ false → TakesSome q (tree_of a) f) → (is_never hi ≡ false → Simulates c f) →
        Simulates (repeat_code greedy c (loop_form lo hi may_be_empty)) (repeats q.text lo hi greedy f)
    pub enumerates_absent : (c : Code) (f : Ways) → Simulates c f → Simulates (absent_code c) (absent q f)
    -- a delegate enumerates the first way of its nodes, one after the other
    pub enumerates_batch : (es : List Tree) (depths : Depths) → Every (IsDelegated a) es →
        Every (IsWritten (tree_of a)) es → Simulates (batch o.unicode es) (first_of_batch q a depths es)
    pub enumerates_easy_absent : (e : Tree) (depths : Depths) → IsDelegated a e → IsWritten (tree_of a) (AbsentRepeater e) →
        Simulates
        (one
        (Instr.AbsentRepeater (pattern_of o.unicode (e ∷ [])) (fragment o.unicode (e ∷ [])) (group_range (e ∷ []))))
        (absent q (ways q (tree_of a) e depths))
    pub enumerates_leaf : (e : Tree) (call : ℕ → Bool → Code) (meant : ℕ → Ways) (at_start in_hard : Bool) → IsLeaf e →
        IsWritten (tree_of a) e → (at_start ≡ true → has_marked_continue (tree_of a) e ≡ true → MayStop) →
        Simulates (written (plan_for a o) (λ d. false) call e at_start in_hard) (ways_with q meant e)
    -- the lookbehind of an alternation of one size is that of its branches
    pub by_branches : (z : Size) (fs : List Ways) (s : MatchState) → z.is_const ≡ true → SizedBy z (one_of fs) →
        KeepsSound q (tree_of a) (one_of fs) → IsSoundState q (tree_of a) s →
        ends_here q (one_of fs) s ≡ one_of (map (ends_here q) fs) s

-- a tree that is accepted, a text, and code of which this is known
pub record Setup : Type 1 where
  pub tree : Analysed
  pub options : CompileOptions
  pub setting : Setting
  pub Simulates : Code → Ways → Type 0
  pub MayStop : Type 0
  pub size_law : SizeLaw
  pub is_text : IsText setting.text
  pub same_end_text : SameEndText (plan_for tree options)
  pub ready : IsReady tree options setting
  -- a `\G` that the whole tree begins with may give up the search
  pub may_stop : has_marked_continue (tree_of tree) (tree_of tree) ≡ true → MayStop
  pub laws : EnumeratesWays tree options setting Simulates MayStop
