-- What is to be shown of a step of the search: that it goes by the tasks, and what that says of their ways.
use Rattle.std.specs.Prelude.{◌≡◌, ◌≤◌, ◌<◌, ◌⊎◌, ℕ, List, [], ◌∷◌, flat_map, length}
use Rattle.fancy_meaning.specs.Options.{Analysis}
use Rattle.fancy_meaning.specs.MatchState.{MatchState}
use Rattle.fancy_meaning.specs.Ways.{Setting}
use Rattle.fancy_nfa_laws.specs.NfaStates.{NfaState}
use Rattle.fancy_nfa_laws.specs.NfaSearch as search
use Rattle.fancy_nfa_laws.specs.NfaSearch.{NfaConfig, StepResult}
use Rattle.fancy_nfa_laws.proofs.Tasks.{Task, TaskStep, Found, Lost, Goes, Tries, ways_of_tasks, TasksFit}
use Rattle.fancy_nfa_laws.proofs.Standing.{IsConfigOf}

module _ (q : Setting) (a : Analysis) where
  -- each of these configurations is at the tasks with the same index, in this match state
  abbrev pub AreConfigsOf : List NfaState → List NfaConfig → List (List Task) → MatchState → Type 0
  AreConfigsOf states [] [] m = Unit {0}
  AreConfigsOf states [] (ts ∷ tss) m = ⊥
  AreConfigsOf states (s ∷ ss) [] m = ⊥
  AreConfigsOf states (s ∷ ss) (ts ∷ tss) m = IsConfigOf a states s ts m × AreConfigsOf states ss tss m

  -- the search is led as the tasks are
  abbrev pub IsStepOf : List NfaState → StepResult → TaskStep → Type 0
  IsStepOf states search.Found Found = Unit {0}
  IsStepOf states search.Lost Lost = Unit {0}
  IsStepOf states (search.Goes s) (Goes ts m) = IsConfigOf a states s ts m
  IsStepOf states (search.Tries is_memoized s ss) (Tries memoized tss m) = (is_memoized ≡ memoized) × AreConfigsOf states (s ∷ ss) tss m
  IsStepOf states l k = ⊥

  module _ (rank : List Task → (place : ℕ) → ℕ) where
    -- further on in the text, or there with a lower rank
    abbrev pub Lower : List Task → MatchState → List Task → MatchState → Type 0
    Lower us n ts m = (m.place < n.place) ⊎ ((m.place ≡ n.place) × (rank us n.place < rank ts m.place))

    abbrev pub AreLower : List (List Task) → List Task → MatchState → Type 0
    AreLower [] ts m = Unit {0}
    AreLower (us ∷ uss) ts m = (TasksFit a m.place us × Lower us m ts m) × AreLower uss ts m

    -- what a step result says of the ways of the tasks
    abbrev pub StepMeans : List Task → MatchState → TaskStep → Type 0
    StepMeans ts m Found = ways_of_tasks a q ts m ≡ m ∷ []
    StepMeans ts m Lost = ways_of_tasks a q ts m ≡ []
    StepMeans ts m (Goes us n) =
        (ways_of_tasks a q us n ≡ ways_of_tasks a q ts m) × TasksFit a n.place us × (n.place ≤ length q.text) × Lower us n ts m
    StepMeans ts m (Tries is_memoized uss n) =
        (n ≡ m) × (flat_map (λ us. ways_of_tasks a q us m) uss ≡ ways_of_tasks a q ts m) × AreLower uss ts m

-- what else is kept to by where the search stands, and at which tasks
module _ (IsHere : NfaConfig → List Task → Type 0) where
  abbrev pub AreHere : List NfaConfig → List (List Task) → Type 0
  AreHere (s ∷ ss) (ts ∷ tss) = IsHere s ts × AreHere ss tss
  AreHere ss tss = Unit {0}

  abbrev pub StepIsHere : StepResult → TaskStep → Type 0
  StepIsHere (search.Goes s) (Goes ts m) = IsHere s ts
  StepIsHere (search.Tries is_memoized s ss) (Tries memoized tss m) = AreHere (s ∷ ss) tss
  StepIsHere l k = Unit {0}
