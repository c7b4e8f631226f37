-- How what the code keeps of a search stands for the search of the definition.
use Rattle.std.specs.Prelude.{◌≡◌, ◌≤◌, ◌+◌, ◌*◌, ◌^◌, ◌-◌, ℕ, zero, suc, min, Bool, true, false, List, [], ◌∷◌, ◌++◌, length, Some, Result, Ok, Err}
use Rattle.fancy_nfa_laws.specs.NfaSearch as plain
use Rattle.fancy_nfa_laws.specs.NfaSearch.{Pair, Frame, Other, Fails, Search, Next, TakesUp, TakesBack, Ends, goes_to, pair_of}
use Rattle.std.specs.declared.alloc.AllocError.{AllocError}
use Rattle.fancy_backtrack.specs.declared.trail.Entry.{Entry}
use Rattle.fancy_backtrack.specs.declared.trail.NfaConfig.{NfaConfig}
use Rattle.fancy_backtrack.specs.declared.backtrack_stack.StackFrame.{StackFrame}
use Rattle.fancy_backtrack.specs.declared.memo.StepResult.{StepResult}
use Rattle.fancy_backtrack.specs.declared.memo.StepResult.TheVariants as step_result
use Rattle.fancy_backtrack.specs.declared.memo.Memo.{Memo}
use Rattle.fancy_backtrack.specs.BacktrackStack.{choices_of}
use Rattle.fancy_backtrack.specs.PairKeys.{key_of}
use Rattle.fancy_backtrack.specs.FailedPairs.{has_pair}
use Rattle.fancy_backtrack.specs.Paths.{IsConfig}

-- where a configuration leads, by the definition
abbrev pub Continuation : Type 0
Continuation = plain.NfaConfig → plain.StepResult

-- the pair is kept to be memoized, where it is one that is memoized
abbrev pub fails_of : Bool → plain.NfaConfig → List Frame
fails_of true s = Fails s ∷ []
fails_of false s = []

abbrev pub fails_before : Bool → plain.NfaConfig → List Frame → List Frame
fails_before is_memoized s rest = fails_of is_memoized s ++ rest

-- what a choice in this configuration keeps for later, before the rest
abbrev pub Keeps : Bool → plain.StepResult → plain.NfaConfig → (rest frames : List Frame) → Type 0
Keeps true l s rest frames =
    (is_memoized : Bool) × ((first : plain.NfaConfig) × ((other : plain.NfaConfig) ×
    ((l ≡ plain.Tries is_memoized first (other ∷ [])) × (frames ≡ Other other ∷ (fails_of is_memoized s ++ rest)))))
Keeps false l s rest frames = frames ≡ Fails s ∷ rest

-- what choices on a path keep for later, the last one first
abbrev pub AreKept : Continuation → List Entry → (path : ℕ) → List StackFrame → List Frame → Type 0
AreKept continuation entries path [] frames = frames ≡ []
AreKept continuation entries path (c ∷ cs) frames =
    (c.path ≤ path) × ((s : plain.NfaConfig) × ((rest : List Frame) ×
    (IsConfig entries c.path c.config s × Keeps c.is_untried (continuation s) s rest frames
    × AreKept continuation entries c.path cs rest)))

-- the pairs that are known to have no way
abbrev pub HaveFailed : Memo → (Pair → Bool) → Type 0
HaveFailed m failed = (p : Pair) → has_pair m.failed (key_of p) ≡ failed p

-- a count of the code, which stays at the greatest number of its type
abbrev pub saturated : ℕ → ℕ
saturated n = min (2 ^ 64 - 1) n

pub record IsSearch (continuation : Continuation) (m : Memo) (f : Search) : Type 0 where
  pub frames : AreKept continuation m.trail.entries.items (length m.trail.entries.items) (choices_of m.frames) f.frames
  pub failed : HaveFailed m f.failed
  pub visits : m.visits ≡ saturated f.visits

-- the configuration at the end of the path
abbrev pub IsHere : Memo → NfaConfig → plain.NfaConfig → Type 0
IsHere m s t = IsConfig m.trail.entries.items (length m.trail.entries.items) s t

-- a step from this configuration, which is to come to `next`, answered this
abbrev pub Simulates : Continuation → plain.NfaConfig → (Pair → Bool) → Next → Result StepResult AllocError → Memo → Type 0
Simulates continuation s failed next (Ok (step_result.Found there)) m =
    (f : Search) × ((next ≡ Ends (Some s) f) × IsSearch continuation m f × IsHere m there s)
Simulates continuation s failed next (Ok step_result.Lost) m =
    (f : Search) × ((next ≡ TakesBack f) × IsSearch continuation m f)
Simulates continuation s failed next (Ok (step_result.Goes there)) m =
    (f : Search) × ((t : plain.NfaConfig) × ((next ≡ TakesUp t f) × IsSearch continuation m f × IsHere m there t))
Simulates continuation s failed next (Err e) m = HaveFailed m failed

-- ---- many iterations of a loop at once

-- this configuration so many bytes on
abbrev pub onward : ℕ → plain.NfaConfig → plain.NfaConfig
onward n s = record s { place = s.place + n }

-- at each place the configuration goes on at the first state, and later by the way out, if its pair may have a way
abbrev pub IsLoopSplitOf : Continuation → (first : ℕ) → (out : plain.NfaConfig → plain.NfaConfig) → plain.NfaConfig → Type 0
IsLoopSplitOf continuation first out s =
    (n : ℕ) → continuation (onward n s) ≡ plain.Tries true (goes_to first (onward n s)) (out (onward n s) ∷ [])

-- behind n iterations the way out of the loop is tried later at each place, the last one first
abbrev pub run_frames : (out : plain.NfaConfig → plain.NfaConfig) → ℕ → plain.NfaConfig → List Frame → List Frame
run_frames out zero s frames = frames
run_frames out (suc n) s frames = Other (out (onward n s)) ∷ Fails (onward n s) ∷ run_frames out n s frames

-- each takes up the head and the character
abbrev pub run_search : (out : plain.NfaConfig → plain.NfaConfig) → ℕ → plain.NfaConfig → Search → Search
run_search out n s f = record f { frames = run_frames out n s f.frames; visits = f.visits + 2 * n }
