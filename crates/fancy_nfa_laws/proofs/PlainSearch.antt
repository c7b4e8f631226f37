-- The theorems of plain searches, from what is shown of tasks, pairs and weights.
use Rattle.std.proofs.Common.{◌≤◌, ℕ, ◌+◌, ◌-◌, true, false, List, length, Option, slice_get, sym, subst, arith}
use Rattle.fancy_meaning.specs.Tree.{Tree}
use Rattle.fancy_meaning.specs.Options.{Analysis}
use Rattle.fancy_meaning.specs.FragmentStates.{visit_bound}
use Rattle.fancy_meaning.specs.MatchState.{MatchState}
use Rattle.fancy_meaning.specs.Ways.{Setting}
use Rattle.fancy_laws.proofs.Every.{Every, every_weaker}
use Rattle.fancy_nfa_laws.specs.NfaStates.{NfaState}
use Rattle.fancy_nfa_laws.specs.NfaCode.{states_of}
use Rattle.fancy_nfa_laws.specs.NfaSearch as search
use Rattle.fancy_nfa_laws.specs.NfaSearch.{NfaConfig, Pair, StepResult, pair_of, is_counted}
use Rattle.fancy_nfa_laws.specs.FirstWays.{AreEasy, FindsFirstWays, FailedSetIsSound}
use Rattle.fancy_nfa_laws.proofs.Tasks.{Task, TaskStep, Found, Lost, Goes, Tries, task_step, tasks_of, TasksFit}
use Rattle.fancy_nfa_laws.proofs.Standing.{IsConfigOf}
use Rattle.fancy_nfa_laws.proofs.StepLaws.{IsStepOf}
use Rattle.fancy_nfa_laws.proofs.ConfigSteps.{config_steps, first_config_is}
use Rattle.fancy_nfa_laws.proofs.TaskSteps.{task_steps}
use Rattle.fancy_nfa_laws.proofs.TaskWays.{tasks_have_ways, tasks_of_fit}
use Rattle.fancy_nfa_laws.proofs.Ranks.{rank}
use Rattle.fancy_nfa_laws.proofs.Pairs.{pair_facts}
use Rattle.fancy_nfa_laws.proofs.Weights.{weight}
use Rattle.fancy_nfa_laws.proofs.Fees.{Fee, nodes_fees}
use Rattle.fancy_nfa_laws.proofs.FeesKept.{KeepsFees, fees_kept}
use Rattle.fancy_nfa_laws.proofs.FeePlaces.{FeesStand, fragment_stands}
use Rattle.fancy_nfa_laws.proofs.Segments.{lies_itself}
use Rattle.fancy_nfa_laws.proofs.Totals.{Distinct}
use Rattle.fancy_nfa_laws.proofs.FeeSums.{charge_of, IsNotable, charges_fit}
use Rattle.fancy_nfa_laws.proofs.Payments.{IsPaid, step_paid}
use Rattle.fancy_nfa_laws.proofs.Positions.{Ground, step_result_of, StepWeighs, StepFacts}
use Rattle.fancy_nfa_laws.proofs.Visits.{IsTriedPair, charges}
use Rattle.fancy_nfa_laws.proofs.FindsFirst.{ground, Measures, finds_first_ways, memoized_fail}

module _ (q : Setting) (a : Analysis) (es : List Tree) where
  abbrev states : List NfaState
  states = states_of a.tree es

  abbrev fees : List (Option Fee)
  fees = nodes_fees a es

  abbrev charge : ℕ → ℕ
  charge at = charge_of (slice_get fees at)

  abbrev IsHere : NfaConfig → List Task → Type 0
  IsHere s ts = FeesStand a states fees s.at ts

  abbrev w : Ground
  w = ground q a es (rank a) (weight a) charge IsHere

  -- ---- a step

  weighs : (from : ℕ) (s : NfaConfig) (ts : List Task) (k : TaskStep) → IsPaid a states fees q from s ts k → StepWeighs w s ts k
  weighs from s ts Found h = h
  weighs from s ts Lost h = h
  weighs from s ts (Goes us n) h = h
  weighs from s ts (Tries false uss n) h = h
  weighs from s ts (Tries true uss n) h = h.1

  step_accounts : (from : ℕ) (s : NfaConfig) (ts : List Task) (m : MatchState) → IsConfigOf a states s ts m →
      TasksFit a m.place ts → m.place ≤ length q.text → IsHere s ts → from ≤ m.place →
      KeepsFees q a states fees (step_result_of w s) (task_step a q ts m)
      × IsPaid a states fees q from s ts (task_step a q ts m)
  step_accounts from s ts m is fits within here on =
      let place = is.place in (
        fees_kept q a states fees s ts m is here,
        step_paid a states fees q from s ts m is here fits (omega (arith, on, place)) (omega (arith, within, place)),
      )

  step_facts : StepFacts w
  step_facts = record {
    config_steps = config_steps q a states;
    task_steps = task_steps q a;
    step_weighs = λ s ts m is fits within here.
        weighs 0 s ts (task_step a q ts m) (step_accounts 0 s ts m is fits within here (omega arith)).1;
    leads_here = λ s ts m is fits within here.
        (step_accounts 0 s ts m is fits within here (omega arith)).0;
  }

  -- ---- the pairs that were tried

  notable_by : (from : ℕ) (s t : NfaConfig) (rest : List NfaConfig) (ts : List Task) (k : TaskStep) →
      IsStepOf q a states (search.Tries true t rest) k →
      IsPaid a states fees q from s ts k →
      IsNotable fees from (length q.text) (pair_of s)
  notable_by from s t rest ts (Tries true uss n) is h = h.0
  notable_by from s t rest ts (Tries false uss n) is h = cc is.0
  notable_by from s t rest ts k is h = absurd is

  notable : (from : ℕ) (x : Pair) → IsTriedPair w from x → IsNotable fees from (length q.text) x
  notable from x h =
      let p = h.position in
      subst (IsNotable fees from (length q.text)) (sym h.is_pair)
      (notable_by from h.config h.first h.rest p.tasks (task_step a q p.tasks p.state)
      (subst (λ l. IsStepOf q a states l (task_step a q p.tasks p.state)) h.is_tried
      (config_steps q a states h.config p.tasks p.state p.is_config))
      (step_accounts from h.config p.tasks p.state p.is_config p.fits p.within p.is_here h.on).1)

  charges_bound : (start : ℕ) (xs : List Pair) → Distinct xs → Every (IsTriedPair w start) xs →
      weight a (tasks_of a es) + charges w start xs ≤ visit_bound a.tree es (length q.text - start)
  charges_bound start xs distinct tried =
      charges_fit a es start (length q.text) xs distinct (every_weaker (λ x h. notable start x h) tried)

  measures : AreEasy a es → Measures q a es
  measures easy = record {
    rank = rank a;
    weight = weight a;
    charge = charge;
    IsHere = IsHere;
    facts = record {
      steps = step_facts;
      pairs = pair_facts w step_facts;
      first_stands = first_config_is a es;
      first_fits = λ place. tasks_of_fit a es place easy;
      first_here = λ place. fragment_stands a states fees es 0 (lies_itself fees);
      first_ways = λ m. tasks_have_ways q a es m easy;
      visits_bound = λ start within xs distinct tried. charges_bound start xs distinct tried;
    };
  }

pub plain_search_finds : FindsFirstWays
plain_search_finds = finds_first_ways (λ q a es is_text easy. measures q a es easy)

pub failed_set_is_sound : FailedSetIsSound
failed_set_is_sound = memoized_fail (λ q a es is_text easy. measures q a es easy)
