-- Positions of a search, which are configurations at tasks: what is asked of the tasks, and a step from there.
use Rattle.std.proofs.Common.{◌≡◌, ◌≤◌, ◌⊎◌, ℕ, ◌+◌, Bool, true, false, List, [], ◌∷◌, ◌++◌, flat_map, length, slice_get, if◌then◌else◌, refl, sym, subst, ap, ◌∙◌, append_assoc, arith}
use Rattle.fancy_meaning.specs.Options.{Analysis}
use Rattle.fancy_meaning.specs.MatchState.{MatchState}
use Rattle.fancy_meaning.specs.Ways.{Setting}
use Rattle.fancy_nfa_laws.specs.NfaStates.{NfaState}
use Rattle.fancy_nfa_laws.specs.NfaSearch.{NfaConfig, Pair, StepResult, Found, Lost, Goes, Tries, Search, Next, Fails, pair_of, others, with_frames, visited, same_pair, is_counted, step_result, next, after_steps}
use Rattle.fancy_nfa_laws.proofs.Totals.{total_by}
use Rattle.fancy_nfa_laws.proofs.Tasks as tasks
use Rattle.fancy_nfa_laws.proofs.Tasks.{Task, TaskStep, task_step, ways_of_tasks, TasksFit}
use Rattle.fancy_nfa_laws.proofs.Standing.{IsConfigOf}
use Rattle.fancy_nfa_laws.proofs.StepLaws.{IsStepOf, StepMeans, Lower, AreConfigsOf, AreLower, AreHere, StepIsHere}
use Rattle.fancy_nfa_laws.proofs.Weights.{cost}

-- what is searched, and how its tasks and states are measured
pub record Ground : Type 1 where
  pub setting : Setting
  pub analysis : Analysis
  pub states : List NfaState
  -- what else is kept to by where the search stands, and at which tasks
  pub IsHere : NfaConfig → List Task → Type 0
  -- how far tasks are from their end, while nothing is taken
  pub rank : List Task → (place : ℕ) → ℕ
  -- how many states are counted before a pair is tried
  pub weight : List Task → ℕ
  -- how many for a pair of this state
  pub charge : (at : ℕ) → ℕ

module _ (w : Ground) where
  abbrev pub step_result_of : NfaConfig → StepResult
  step_result_of = step_result (w.setting).text (w.setting).unicode w.states

  abbrev pub next_of : Next → Next
  next_of = next (w.setting).text (w.setting).unicode w.states

  abbrev pub after : ℕ → Next → Next
  after = after_steps (w.setting).text (w.setting).unicode w.states

  abbrev pub end : ℕ
  end = length (w.setting).text

  -- the search stands at tasks that fit
  pub record Position (s : NfaConfig) : Type 0 where
    pub tasks : List Task
    pub state : MatchState
    pub is_config : IsConfigOf w.analysis w.states s tasks state
    pub fits : TasksFit w.analysis state.place tasks
    pub within : state.place ≤ end
    pub is_here : w.IsHere s tasks

  abbrev pub ways_at : {s : NfaConfig} → Position s → List MatchState
  ways_at p = ways_of_tasks w.analysis w.setting p.tasks p.state

  abbrev pub weight_at : {s : NfaConfig} → Position s → ℕ
  weight_at p = w.weight p.tasks

  abbrev pub IsLower : {s t : NfaConfig} → Position t → Position s → Type 0
  IsLower r p = Lower w.setting w.analysis w.rank r.tasks r.state p.tasks p.state

  -- ---- several configurations

  abbrev pub Positions : List NfaConfig → Type 0
  Positions [] = Unit {0}
  Positions (s ∷ ss) = Position s × Positions ss

  abbrev pub ways_from : (ss : List NfaConfig) → Positions ss → List MatchState
  ways_from [] rs = []
  ways_from (s ∷ ss) rs = ways_at rs.0 ++ ways_from ss rs.1

  abbrev pub weight_from : (ss : List NfaConfig) → Positions ss → ℕ
  weight_from [] rs = 0
  weight_from (s ∷ ss) rs = weight_at rs.0 + weight_from ss rs.1

  abbrev pub AllLower : {s : NfaConfig} (ss : List NfaConfig) → Positions ss → Position s → Type 0
  AllLower [] rs p = Unit {0}
  AllLower (s ∷ ss) rs p = IsLower rs.0 p × AllLower ss rs.1 p

  -- ---- what is asked of the tasks

  abbrev pub count_at : NfaConfig → ℕ
  count_at s = cost (is_counted (slice_get w.states s.at))

  -- what is counted before a pair is tried lies in the weight, and what a pair leads to in its charge
  abbrev pub StepWeighs : NfaConfig → List Task → TaskStep → Type 0
  StepWeighs s ts tasks.Found = count_at s ≤ w.weight ts
  StepWeighs s ts tasks.Lost = count_at s ≤ w.weight ts
  StepWeighs s ts (tasks.Goes us n) = count_at s + w.weight us ≤ w.weight ts
  StepWeighs s ts (tasks.Tries false uss n) = count_at s + total_by w.weight uss ≤ w.weight ts
  StepWeighs s ts (tasks.Tries true uss n) = count_at s + total_by w.weight uss ≤ w.charge s.at

  pub record StepFacts : Type 0 where
    pub config_steps : (s : NfaConfig) (ts : List Task) (m : MatchState) → IsConfigOf w.analysis w.states s ts m →
        IsStepOf w.setting w.analysis w.states (step_result_of s) (task_step w.analysis w.setting ts m)
    pub task_steps : (ts : List Task) (m : MatchState) → TasksFit w.analysis m.place ts → m.place ≤ end →
        StepMeans w.setting w.analysis w.rank ts m (task_step w.analysis w.setting ts m)
    pub step_weighs : (s : NfaConfig) (ts : List Task) (m : MatchState) → IsConfigOf w.analysis w.states s ts m →
        TasksFit w.analysis m.place ts → m.place ≤ end → w.IsHere s ts →
        StepWeighs s ts (task_step w.analysis w.setting ts m)
    pub leads_here : (s : NfaConfig) (ts : List Task) (m : MatchState) → IsConfigOf w.analysis w.states s ts m →
        TasksFit w.analysis m.place ts → m.place ≤ end → w.IsHere s ts →
        StepIsHere w.IsHere (step_result_of s) (task_step w.analysis w.setting ts m)

  -- ---- a step

  -- one of the configurations that a step result goes on to
  abbrev pub IsOneOf : List NfaConfig → NfaConfig → Type 0
  IsOneOf [] t = ⊥
  IsOneOf (s ∷ ss) t = (s ≡ t) ⊎ IsOneOf ss t

  abbrev pub LeadsTo : StepResult → NfaConfig → Type 0
  LeadsTo Found t = ⊥
  LeadsTo Lost t = ⊥
  LeadsTo (Goes s) t = s ≡ t
  LeadsTo (Tries is_memoized s ss) t = IsOneOf (s ∷ ss) t

  -- in one step or more
  pub data Reaches (s : NfaConfig) : NfaConfig → Type 0 where
    in_one : {t : NfaConfig} → LeadsTo (step_result_of s) t → Reaches s t
    in_more : {t u : NfaConfig} → Reaches s t → LeadsTo (step_result_of t) u → Reaches s u

  -- whether a pair has a way depends on it alone, and no search comes back to it
  pub record PairFacts : Type 0 where
    pub same_pairs : (x y : Pair) → same_pair x y ≡ true → x ≡ y
    pub itself : (x : Pair) → same_pair x x ≡ true
    pub same_ways : (s t : NfaConfig) (p : Position s) (r : Position t) → pair_of s ≡ pair_of t → ways_at p ≡ [] → ways_at r ≡ []
    pub no_return : (s t : NfaConfig) → Position s → Reaches s t → pair_of s ≡ pair_of t → ⊥

  -- where a step result goes on to, with the ways and the weights of a position that leads there
  abbrev pub Step : {s : NfaConfig} → Position s → StepResult → Type 0
  Step {s} p Found = (ways_at p ≡ p.state ∷ []) × (count_at s ≤ weight_at p)
  Step {s} p Lost = (ways_at p ≡ []) × (count_at s ≤ weight_at p)
  Step {s} p (Goes t) = (r : Position t) × IsLower r p × (ways_at r ≡ ways_at p) × (count_at s + weight_at r ≤ weight_at p)
  Step {s} p (Tries is_memoized t ts) =
      (rs : Positions (t ∷ ts)) × AllLower (t ∷ ts) rs p × (ways_from (t ∷ ts) rs ≡ ways_at p)
      × (count_at s + weight_from (t ∷ ts) rs ≤ (if is_memoized then w.charge s.at else weight_at p))

  -- positions of all these configurations, with the ways and the weights of the tasks
  record AllAt {s : NfaConfig} (p : Position s) (ss : List NfaConfig) (uss : List (List Task)) : Type 0 where
    positions : Positions ss
    lower : AllLower ss positions p
    ways : ways_from ss positions ≡ flat_map (λ us. ways_of_tasks w.analysis w.setting us p.state) uss
    weigh : weight_from ss positions ≡ total_by w.weight uss

  all_at : {s : NfaConfig} (p : Position s) (ss : List NfaConfig) (uss : List (List Task)) →
      AreConfigsOf w.setting w.analysis w.states ss uss p.state →
      AreLower w.setting w.analysis w.rank uss p.tasks p.state → AreHere w.IsHere ss uss → AllAt p ss uss
  all_at p [] [] h k here = record { positions = tt; lower = tt; ways = refl; weigh = refl }
  all_at p [] (us ∷ uss) h k here = absurd h
  all_at p (s ∷ ss) [] h k here = absurd h
  all_at p (s ∷ ss) (us ∷ uss) h k here =
      let first : Position s =
      record { tasks = us; state = p.state; is_config = h.0; fits = k.0.0; within = p.within; is_here = here.0 } in
      let rest = all_at p ss uss h.1 k.1 here.1 in
      record {
        positions = (first, rest.positions);
        lower = (k.0.1, rest.lower);
        ways = ap (λ l. ways_at first ++ l) rest.ways;
        weigh = ap (λ n. w.weight us + n) rest.weigh;
      }

  tries_at : {s : NfaConfig} (p : Position s) (ss : List NfaConfig) (uss : List (List Task)) (n : MatchState) (bound : ℕ) →
      n ≡ p.state → AreConfigsOf w.setting w.analysis w.states ss uss n →
      flat_map (λ us. ways_of_tasks w.analysis w.setting us p.state) uss ≡ ways_at p →
      AreLower w.setting w.analysis w.rank uss p.tasks p.state → AreHere w.IsHere ss uss → count_at s + total_by w.weight uss ≤ bound →
      (rs : Positions ss) × AllLower ss rs p × (ways_from ss rs ≡ ways_at p) × (count_at s + weight_from ss rs ≤ bound)
  tries_at p ss uss n bound e h ways lower here c =
      let all = all_at p ss uss (subst (AreConfigsOf w.setting w.analysis w.states ss uss) e h) lower here in
      (all.positions, all.lower, all.ways ∙ ways, rw (all.weigh) c)

  step_by : {s : NfaConfig} (p : Position s) (l : StepResult) (k : TaskStep) →
      IsStepOf w.setting w.analysis w.states l k →
      StepMeans w.setting w.analysis w.rank p.tasks p.state k → StepIsHere w.IsHere l k → StepWeighs s p.tasks k → Step p l
  step_by p Found tasks.Found h m here c = (m, c)
  step_by p Lost tasks.Lost h m here c = (m, c)
  step_by p (Goes t) (tasks.Goes us n) h m here c =
      (record { tasks = us; state = n; is_config = h; fits = m.1; within = m.2; is_here = here }, m.3, m.0, c)
  step_by p (Tries false t ts) (tasks.Tries true uss n) h m here c = cc h.0
  step_by p (Tries true t ts) (tasks.Tries false uss n) h m here c = cc h.0
  step_by {s} p (Tries false t ts) (tasks.Tries false uss n) h m here c =
      tries_at p (t ∷ ts) uss n (weight_at p) m.0 h.1 m.1 m.2 here c
  step_by {s} p (Tries true t ts) (tasks.Tries true uss n) h m here c =
      tries_at p (t ∷ ts) uss n (w.charge s.at) m.0 h.1 m.1 m.2 here c
  step_by p l k h m here c = absurd h

  pub step : StepFacts → {s : NfaConfig} (p : Position s) → Step p (step_result_of s)
  step facts {s} p =
      step_by p (step_result_of s) (task_step w.analysis w.setting p.tasks p.state)
      (facts.config_steps s p.tasks p.state p.is_config)
      (facts.task_steps p.tasks p.state p.fits p.within)
      (facts.leads_here s p.tasks p.state p.is_config p.fits p.within p.is_here)
      (facts.step_weighs s p.tasks p.state p.is_config p.fits p.within p.is_here)

-- ---- what a state that is taken up leaves

pub visited_is : (w : Ground) (s : NfaConfig) (found : Search) →
    record found { visits = found.visits + count_at w s } ≡ visited (slice_get w.states s.at) found
visited_is w s found = go (is_counted (slice_get w.states s.at))
  where
    go : (b : Bool) →
        record found { visits = found.visits + cost b }
        ≡ (if b then record found { visits = found.visits + 1 } else found)
    go true = refl
    go false = let none : found.visits + 0 ≡ found.visits = omega arith in ap (λ v. record found { visits = v }) none

-- with all that its pair leads to before the pair
pub tried_is : (w : Ground) (s : NfaConfig) (ts : List NfaConfig) (found : Search) →
    record found { frames = others ts ++ (Fails s ∷ found.frames); visits = found.visits + count_at w s }
    ≡ with_frames (others ts ++ (Fails s ∷ [])) (visited (slice_get w.states s.at) found)
tried_is w s ts found =
    ap (λ l. record found { frames = l; visits = found.visits + count_at w s })
    (sym (append_assoc (others ts) (Fails s ∷ []) found.frames))
    ∙ ap (with_frames (others ts ++ (Fails s ∷ []))) (visited_is w s found)
