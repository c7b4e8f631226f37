-- A place among the states stands for a list of tasks.
use Rattle.std.specs.Prelude.{◌≡◌, ℕ, ◌+◌, Bool, true, false, List, [], ◌∷◌, length, Some, slice_get}
use Rattle.fancy_meaning.specs.Options.{Analysis}
use Rattle.fancy_meaning.specs.MatchState.{MatchState}
use Rattle.fancy_nfa_laws.specs.NfaStates.{NfaState, Match, Character, Holds, Open, Close, Split, BranchSplit, Jump, Join, CounterBegin, CounterLoop}
use Rattle.fancy_nfa_laws.specs.NfaCode.{NfaCode, ◌>>◌, one, laid, each_laid, branch, branches, headed, preferring, star, plus, around}
use Rattle.fancy_nfa_laws.specs.NfaSearch.{LoopCounter, NfaConfig}
use Rattle.fancy_nfa_laws.specs.FirstWays.{spans_of}
use Rattle.fancy_nfa_laws.proofs.Segments.{LiesAt}
use Rattle.fancy_nfa_laws.proofs.Tasks.{Task, Takes, Asserts, Opens, Closes, Chooses, May, Stars, StartsPlus, Counts, Iterates, Jumps, Joins}

abbrev pub choosing : Bool → ℕ → ℕ → NfaState
choosing true = Split
choosing false = BranchSplit

module _ (a : Analysis) (states : List NfaState) where
  -- this code is laid from p on
  abbrev pub IsLaidAt : ℕ → NfaCode → Type 0
  IsLaidAt p code = LiesAt states p (code p)

  abbrev pub IsAt : ℕ → NfaState → Type 0
  IsAt p nfa_state = slice_get states p ≡ Some nfa_state

  -- behind code that is laid from p on
  abbrev pub behind : ℕ → NfaCode → ℕ
  behind p code = p + length (code p)

  abbrev pub Stands : ℕ → List LoopCounter → List ℕ → List Task → Type 0
  Stands p (t ∷ counters) opened [] = ⊥
  Stands p [] (from ∷ opened) [] = ⊥
  Stands p [] [] [] = IsAt p Match
  Stands p counters opened (Takes test ∷ ts) = IsAt p (Character test) × Stands (p + 1) counters opened ts
  Stands p counters opened (Asserts x ∷ ts) = IsAt p (Holds x) × Stands (p + 1) counters opened ts
  Stands p counters opened (Opens g e ∷ ts) =
      let code = one Open >> laid a.tree e >> one (Close g) in
      IsLaidAt p code × Stands (behind p code) counters opened ts
  Stands p counters [] (Closes g from ∷ ts) = ⊥
  Stands p counters (i ∷ opened) (Closes g from ∷ ts) = (i ≡ from) × IsAt p (Close g) × Stands (p + 1) counters opened ts
  Stands p counters opened (Chooses is_first e es ∷ ts) =
      let code = branch (choosing is_first) (laid a.tree e) (branches BranchSplit (each_laid a.tree es)) in
      IsLaidAt p code × Stands (behind p code) counters opened ts
  Stands p counters opened (May greedy e ∷ ts) =
      let code = headed (λ here after. preferring Split greedy (here + 1) after) (laid a.tree e) in
      IsLaidAt p code × Stands (behind p code) counters opened ts
  Stands p counters opened (Stars greedy e ∷ ts) =
      let code = star greedy (laid a.tree e) in
      IsLaidAt p code × Stands (behind p code) counters opened ts
  Stands p counters opened (StartsPlus greedy e ∷ ts) =
      let code = plus greedy (laid a.tree e) in
      IsLaidAt p code × Stands (behind p code) counters opened ts
  Stands p counters opened (Counts loop e ∷ ts) =
      let code = one CounterBegin >> around (λ here after. CounterLoop loop after) (laid a.tree e) in
      IsLaidAt p code × Stands (behind p code) counters opened ts
  Stands p [] opened (Iterates loop e u ∷ ts) = ⊥
  Stands p (t ∷ counters) opened (Iterates loop e u ∷ ts) =
      let code = around (λ here after. CounterLoop loop after) (laid a.tree e) in
      (t ≡ u) × IsLaidAt p code × Stands (behind p code) counters opened ts
  Stands p counters opened (Jumps ∷ ts) = (to : ℕ) × IsAt p (Jump to) × Stands to counters opened ts
  Stands p counters opened (Joins ∷ ts) = IsAt p Join × Stands (p + 1) counters opened ts

  -- a configuration of the search is at these tasks in this match state
  pub record IsConfigOf (s : NfaConfig) (ts : List Task) (m : MatchState) : Type 0 where
    pub stands : Stands s.at s.counters s.opened ts
    pub place : s.place ≡ m.place
    pub spans : spans_of s.spans ≡ m.captures
