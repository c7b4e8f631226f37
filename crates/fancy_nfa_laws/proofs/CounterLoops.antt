-- What states are laid where tasks stand, and the counters that they are in.
use Rattle.std.proofs.Common.{◌≡◌, ℕ, ◌+◌, List, [], ◌∷◌, refl, ap₂}
use Rattle.fancy_meaning.specs.Options.{Analysis}
use Rattle.fancy_nfa_laws.specs.NfaStates.{NfaState, Match, Character, Holds, Open, Close, Split, BranchSplit, Jump, Join, CounterBegin, CounterLoop}
use Rattle.fancy_nfa_laws.specs.NfaCode.{◌>>◌, one, laid, each_laid, branch, branches, headed, preferring, star, plus, around}
use Rattle.fancy_nfa_laws.specs.NfaSearch.{LoopCounter}
use Rattle.fancy_nfa_laws.proofs.Tasks.{Task, Takes, Asserts, Opens, Closes, Chooses, May, Stars, StartsPlus, Counts, Iterates, Jumps, Joins}
use Rattle.fancy_nfa_laws.proofs.Standing.{IsLaidAt, IsAt, behind, Stands, choosing}

-- the counters of the loops around, the innermost first
abbrev pub counters_of : List Task → List LoopCounter
counters_of [] = []
counters_of (Iterates loop e t ∷ ts) = t ∷ counters_of ts
counters_of (t ∷ ts) = counters_of ts

module _ (a : Analysis) (states : List NfaState) where
  -- what the first task is laid as
  abbrev pub CounterLoopLaid : ℕ → List Task → Type 0
  CounterLoopLaid p [] = IsAt a states p Match
  CounterLoopLaid p (Takes test ∷ ts) = IsAt a states p (Character test)
  CounterLoopLaid p (Asserts x ∷ ts) = IsAt a states p (Holds x)
  CounterLoopLaid p (Opens g e ∷ ts) = IsLaidAt a states p (one Open >> laid a.tree e >> one (Close g))
  CounterLoopLaid p (Closes g from ∷ ts) = IsAt a states p (Close g)
  CounterLoopLaid p (Chooses is_first e es ∷ ts) = IsLaidAt a states p (branch (choosing is_first) (laid a.tree e) (branches BranchSplit (each_laid a.tree es)))
  CounterLoopLaid p (May greedy e ∷ ts) = IsLaidAt a states p (headed (λ here after. preferring Split greedy (here + 1) after) (laid a.tree e))
  CounterLoopLaid p (Stars greedy e ∷ ts) = IsLaidAt a states p (star greedy (laid a.tree e))
  CounterLoopLaid p (StartsPlus greedy e ∷ ts) = IsLaidAt a states p (plus greedy (laid a.tree e))
  CounterLoopLaid p (Counts loop e ∷ ts) = IsLaidAt a states p (one CounterBegin >> around (λ here after. CounterLoop loop after) (laid a.tree e))
  CounterLoopLaid p (Iterates loop e t ∷ ts) = IsLaidAt a states p (around (λ here after. CounterLoop loop after) (laid a.tree e))
  CounterLoopLaid p (Jumps ∷ ts) = (to : ℕ) × IsAt a states p (Jump to)
  CounterLoopLaid p (Joins ∷ ts) = IsAt a states p Join

  pub stands_head : (p : ℕ) (counters : List LoopCounter) (opened : List ℕ) (ts : List Task) → Stands a states p counters opened ts →
      CounterLoopLaid p ts
  stands_head p [] [] [] h = h
  stands_head p [] (from ∷ opened) [] h = absurd h
  stands_head p (t ∷ counters) opened [] h = absurd h
  stands_head p counters opened (Takes test ∷ ts) h = h.0
  stands_head p counters opened (Asserts x ∷ ts) h = h.0
  stands_head p counters opened (Opens g e ∷ ts) h = h.0
  stands_head p counters [] (Closes g from ∷ ts) h = absurd h
  stands_head p counters (i ∷ opened) (Closes g from ∷ ts) h = h.1
  stands_head p counters opened (Chooses is_first e es ∷ ts) h = h.0
  stands_head p counters opened (May greedy e ∷ ts) h = h.0
  stands_head p counters opened (Stars greedy e ∷ ts) h = h.0
  stands_head p counters opened (StartsPlus greedy e ∷ ts) h = h.0
  stands_head p counters opened (Counts loop e ∷ ts) h = h.0
  stands_head p [] opened (Iterates loop e u ∷ ts) h = absurd h
  stands_head p (t ∷ counters) opened (Iterates loop e u ∷ ts) h = h.1
  stands_head p counters opened (Jumps ∷ ts) h = (h.0, h.1)
  stands_head p counters opened (Joins ∷ ts) h = h.0

  pub stands_counters : (p : ℕ) (counters : List LoopCounter) (opened : List ℕ) (ts : List Task) → Stands a states p counters opened ts →
      counters ≡ counters_of ts
  stands_counters p [] [] [] h = refl
  stands_counters p [] (from ∷ opened) [] h = absurd h
  stands_counters p (t ∷ counters) opened [] h = absurd h
  stands_counters p counters opened (Takes test ∷ ts) h = stands_counters (p + 1) counters opened ts h.1
  stands_counters p counters opened (Asserts x ∷ ts) h = stands_counters (p + 1) counters opened ts h.1
  stands_counters p counters opened (Opens g e ∷ ts) h =
      stands_counters (behind a states p (one Open >> laid a.tree e >> one (Close g))) counters opened ts h.1
  stands_counters p counters [] (Closes g from ∷ ts) h = absurd h
  stands_counters p counters (i ∷ opened) (Closes g from ∷ ts) h = stands_counters (p + 1) counters opened ts h.2
  stands_counters p counters opened (Chooses is_first e es ∷ ts) h =
      stands_counters (behind a states p (branch (choosing is_first) (laid a.tree e) (branches BranchSplit (each_laid a.tree es)))) counters opened ts h.1
  stands_counters p counters opened (May greedy e ∷ ts) h =
      stands_counters (behind a states p (headed (λ here after. preferring Split greedy (here + 1) after) (laid a.tree e))) counters opened ts h.1
  stands_counters p counters opened (Stars greedy e ∷ ts) h = stands_counters (behind a states p (star greedy (laid a.tree e))) counters opened ts h.1
  stands_counters p counters opened (StartsPlus greedy e ∷ ts) h = stands_counters (behind a states p (plus greedy (laid a.tree e))) counters opened ts h.1
  stands_counters p counters opened (Counts loop e ∷ ts) h =
      stands_counters (behind a states p (one CounterBegin >> around (λ here after. CounterLoop loop after) (laid a.tree e))) counters opened ts h.1
  stands_counters p [] opened (Iterates loop e u ∷ ts) h = absurd h
  stands_counters p (t ∷ counters) opened (Iterates loop e u ∷ ts) h =
      ap₂ (λ v vs. v ∷ vs) h.0 (stands_counters (behind a states p (around (λ here after. CounterLoop loop after) (laid a.tree e))) counters opened ts h.2)
  stands_counters p counters opened (Jumps ∷ ts) h = stands_counters h.0 counters opened ts h.2
  stands_counters p counters opened (Joins ∷ ts) h = stands_counters (p + 1) counters opened ts h.1
