-- A plain search finds the first way within its bound, and what was memoized has no way: from what is shown of its tasks.
use Rattle.std.proofs.Common.{◌≡◌, ◌≤◌, ℕ, ◌+◌, ◌-◌, Bool, true, false, List, [], ◌∷◌, length, Option, Some, None, option_map, IsTrue, slice_get, refl, sym, subst, ap, ◌∙◌, le_refl, le_trans}
use Rattle.fancy_meaning.specs.Tree.{Tree}
use Rattle.fancy_meaning.specs.Places.{is_place}
use Rattle.fancy_meaning.specs.Options.{Analysis}
use Rattle.fancy_meaning.specs.Premises.{IsText}
use Rattle.fancy_meaning.specs.FragmentStates.{visit_bound}
use Rattle.fancy_meaning.specs.MatchState.{MatchState, first_state}
use Rattle.fancy_meaning.specs.Ways.{Setting}
use Rattle.fancy_laws.proofs.Every.{Every}
use Rattle.fancy_laws.proofs.Moves.{is_place_parts}
use Rattle.fancy_nfa_laws.specs.NfaCode.{states_of}
use Rattle.fancy_nfa_laws.specs.NfaSearch.{NfaConfig, Pair, Search, TakesUp, Ends, pair_of, first_search, first_config}
use Rattle.fancy_nfa_laws.specs.FirstWays.{AreEasy, FindsFirstWays, ways_of_nodes, seen, seen_of, searched, AreMemoized, no_pairs, of_search, FindsFirst, HasNoWay, FailedSetIsSound}
use Rattle.fancy_nfa_laws.proofs.Totals.{Distinct}
use Rattle.fancy_nfa_laws.proofs.Tasks.{Task, tasks_of, ways_of_tasks, TasksFit}
use Rattle.fancy_nfa_laws.proofs.Standing.{IsConfigOf}
use Rattle.fancy_nfa_laws.proofs.Positions.{Ground, Position, ways_at, after, StepFacts, PairFacts}
use Rattle.fancy_nfa_laws.proofs.Memory.{IsSound, Keeps, EndsAt, keeps, still_memoized}
use Rattle.fancy_nfa_laws.proofs.Ending.{stops}
use Rattle.fancy_nfa_laws.proofs.Visits.{IsTriedPair, charges, counted_at_end}

module _ (q : Setting) (a : Analysis) (es : List Tree) (rank : List Task → (place : ℕ) → ℕ) (weight : List Task → ℕ)
    (charge : (at : ℕ) → ℕ) (IsHere : NfaConfig → List Task → Type 0) where
  abbrev pub ground : Ground
  ground = record {
    setting = q;
    analysis = a;
    states = states_of a.tree es;
    IsHere = IsHere;
    rank = rank;
    weight = weight;
    charge = charge;
  }

  -- what is to be shown of neighbouring nodes
  pub record FragmentFacts : Type 0 where
    pub steps : StepFacts ground
    pub pairs : PairFacts ground
    pub first_stands : (place : ℕ) → IsConfigOf a (states_of a.tree es) (first_config place) (tasks_of a es) (first_state place)
    pub first_fits : (place : ℕ) → TasksFit a place (tasks_of a es)
    pub first_here : (place : ℕ) → IsHere (first_config place) (tasks_of a es)
    pub first_ways : (m : MatchState) → ways_of_tasks a q (tasks_of a es) m ≡ ways_of_nodes q es m
    pub visits_bound : (start : ℕ) → start ≤ length q.text → (xs : List Pair) → Distinct xs →
        Every (IsTriedPair ground start) xs →
        weight (tasks_of a es) + charges ground start xs ≤ visit_bound a.tree es (length q.text - start)

  module _ (facts : FragmentFacts) where
    abbrev first_position : (place : ℕ) → place ≤ length q.text → Position ground (first_config place)
    first_position place within = record {
      tasks = tasks_of a es;
      state = first_state place;
      is_config = facts.first_stands place;
      fits = facts.first_fits place;
      within = within;
      is_here = facts.first_here place;
    }

    -- a search from a place, at each step
    keeps_from : (place k : ℕ) (failed : Pair → Bool) → place ≤ length q.text → IsSound ground failed →
        Keeps ground (ways_of_tasks a q (tasks_of a es) (first_state place))
        (searched q.text q.unicode (states_of a.tree es) failed place k)
    keeps_from place k failed within sound =
        keeps ground facts.steps facts.pairs (ways_of_tasks a q (tasks_of a es) (first_state place)) k
        (TakesUp (first_config place) (first_search failed)) (first_position place within, sound, refl)

    -- what was memoized has no way
    memoized_sound : {failed : Pair → Bool} → AreMemoized q.text q.unicode (states_of a.tree es) failed → IsSound ground failed
    memoized_sound no_pairs = λ x e. cc e
    memoized_sound (of_search {failed = failed} place k is h) =
        still_memoized ground facts.steps facts.pairs (ways_of_tasks a q (tasks_of a es) (first_state place))
        (searched q.text q.unicode (states_of a.tree es) failed place k)
        (keeps_from place k failed ((is_place_parts q.text place is).0) (memoized_sound h))

    first_of : (all : List MatchState) (way : Option NfaConfig) → EndsAt ground all way →
        option_map seen_of way ≡ option_map seen (slice_get all 0)
    first_of all None h = sym (ap (λ l. option_map seen (slice_get l 0)) h)
    first_of all (Some s) h = ap (λ v. Some v) h.3 ∙ sym (ap (λ l. option_map seen (slice_get l 0)) h.2)

    no_first : {m : MatchState} {A : Type 0} (rest : List MatchState) → [] ≡ m ∷ rest → A
    no_first rest e = cc

    none_of : (all : List MatchState) (way : Option NfaConfig) → EndsAt ground all way → all ≡ [] → way ≡ None
    none_of all None h e = refl
    none_of all (Some s) h e = no_first h.1 (sym e ∙ h.2)

    -- where a search from a position ends
    record SearchEnd {s : NfaConfig} (p : Position ground s) (failed : Pair → Bool) : Type 0 where
      steps : ℕ
      way : Option NfaConfig
      found : Search
      ends : after ground steps (TakesUp s (first_search failed)) ≡ Ends way found
      at_end : EndsAt ground (ways_at ground p) way

    search_ends : {s : NfaConfig} (p : Position ground s) (failed : Pair → Bool) → IsSound ground failed → SearchEnd p failed
    search_ends {s} p failed sound =
        let stop = stops ground facts.steps s p (first_search failed) refl in
        let all = ways_at ground p in
        record {
          steps = stop.0;
          way = stop.1;
          found = stop.2;
          ends = stop.3;
          at_end =
              (subst (Keeps ground all) stop.3
              (keeps ground facts.steps facts.pairs all stop.0 (TakesUp s (first_search failed)) (p, sound, refl))).1;
        }

    pub finds_first : (failed : Pair → Bool) (place : ℕ) → IsTrue (is_place q.text place) →
        AreMemoized q.text q.unicode (states_of a.tree es) failed → FindsFirst q a es failed place
    finds_first failed place is memoized =
        let within = (is_place_parts q.text place is).0 in
        let position = first_position place within in
        let end = search_ends position failed (memoized_sound memoized) in
        let counted = counted_at_end ground place (weight (tasks_of a es)) facts.steps facts.pairs (first_config place) position
        failed end.steps end.way end.found (le_refl place) (le_refl (weight (tasks_of a es))) end.ends in
        record {
          steps = end.steps;
          way = end.way;
          found = end.found;
          ends = end.ends;
          first =
              first_of (ways_at ground position) end.way end.at_end
              ∙ ap (λ l. option_map seen (slice_get l 0)) (facts.first_ways (first_state place));
          bounded = le_trans counted.1.0 (facts.visits_bound place within counted.0 counted.1.1 counted.1.2);
        }

    pub memoized_fails : (failed : Pair → Bool) (place k : ℕ) (s : NfaConfig) (found : Search) → IsTrue (is_place q.text place) →
        AreMemoized q.text q.unicode (states_of a.tree es) failed →
        searched q.text q.unicode (states_of a.tree es) failed place k ≡ TakesUp s found → failed (pair_of s) ≡ true →
        HasNoWay q (states_of a.tree es) s
    memoized_fails failed place k s found is memoized e h =
        let within = (is_place_parts q.text place is).0 in
        let sound = memoized_sound memoized in
        let kept = subst (Keeps ground (ways_at ground (first_position place within))) e (keeps_from place k failed within sound) in
        let position = kept.0 in
        let end = search_ends position (λ pair. false) (memoized_sound no_pairs) in
        let none = none_of (ways_at ground position) end.way end.at_end (sound (pair_of s) h s position refl) in
        (end.steps, end.found, end.ends ∙ ap (λ way. Ends way end.found) none)

-- these nodes, with measures that this is shown of
pub record Measures (q : Setting) (a : Analysis) (es : List Tree) : Type 1 where
  pub rank : List Task → (place : ℕ) → ℕ
  pub weight : List Task → ℕ
  pub charge : (at : ℕ) → ℕ
  pub IsHere : NfaConfig → List Task → Type 0
  pub facts : FragmentFacts q a es rank weight charge IsHere

module _ (measures : (q : Setting) (a : Analysis) (es : List Tree) → IsText q.text → AreEasy a es → Measures q a es) where
  pub finds_first_ways : FindsFirstWays
  finds_first_ways q a es failed place is_text is easy memoized =
      let m = measures q a es is_text easy in
      finds_first q a es m.rank m.weight m.charge m.IsHere m.facts failed place is memoized

  pub memoized_fail : FailedSetIsSound
  memoized_fail q a es failed place steps s found is_text is easy memoized e h =
      let m = measures q a es is_text easy in
      memoized_fails q a es m.rank m.weight m.charge m.IsHere m.facts failed place steps s found is memoized e h
