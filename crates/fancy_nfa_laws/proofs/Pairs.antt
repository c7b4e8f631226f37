-- Whether there is a way depends on the pair alone, and no search comes back to a pair.
use Rattle.std.proofs.Common.{◌≡◌, ◌<◌, ℕ, Bool, true, false, ◌&&◌, not, List, [], ◌∷◌, ◌++◌, Option, Some, None, if◌then◌else◌, ◌==◌, refl, ap, ap₂, sym, ◌∙◌, subst, arith, inl, inr, ⊎_elim}
use Rattle.std.specs.Prelude.{slice_get}
use Rattle.std.specs.Cmp.Derive.{both_true}
use Rattle.std.proofs.lemmas.Bool.{and_parts, eqb-true, eq-eqb}
use lib.Pointwise.{pointwise, pointwise_decides}
use Rattle.fancy_meaning.specs.Options.{Analysis}
use Rattle.fancy_meaning.specs.MatchState.{MatchState}
use Rattle.fancy_nfa_laws.specs.NfaStates.{Loop, NfaState, Match, Character, Holds, Open, Join, CounterBegin}
use Rattle.fancy_nfa_laws.specs.NfaSearch.{LoopCounter, NfaConfig, Pair, StepResult, Found, Lost, Goes, Tries, step_at, pair_of, same_pair, same_counter}
use Rattle.fancy_nfa_laws.proofs.Tasks.{Task, Takes, Asserts, Opens, Closes, Chooses, May, Stars, StartsPlus, Counts, Iterates, Jumps, Joins, TasksFit, SinceFits}
use Rattle.fancy_nfa_laws.proofs.Standing.{Stands, IsConfigOf}
use Rattle.fancy_nfa_laws.proofs.CounterLoops.{counters_of, stands_counters}
use Rattle.fancy_nfa_laws.proofs.Positions.{Ground, Position, Positions, ways_at, ways_from, AllLower, IsLower, step_result_of, IsOneOf, LeadsTo, Reaches, in_one, in_more, StepFacts, PairFacts, Step, step}
use Rattle.fancy_nfa_laws.proofs.Descent.{at_each}
use Rattle.fancy_nfa_laws.proofs.Alike.{AreAlike, AllAlike, AllSince, IsSince, IsOpen, keys, steps_alike}

-- ---- the test

same_flag : (a b : Bool) → (if a then b else not b) ≡ true → a ≡ b
same_flag true true e = refl
same_flag true false e = cc
same_flag false true e = cc
same_flag false false e = refl

same_flag_self : (a : Bool) → (if a then a else not a) ≡ true
same_flag_self true = refl
same_flag_self false = refl

counters_decide : (t u : ℕ × Bool) → (same_counter t u ≡ true → t ≡ u) × (t ≡ u → same_counter t u ≡ true)
counters_decide t u = (is, λ e. subst (λ v. same_counter t v ≡ true) e itself)
  where
    is : same_counter t u ≡ true → t ≡ u
    is e =
        let parts = and_parts (t.0 == u.0) (if t.1 then u.1 else not u.1) e in
        ap₂ (λ n b. (n, b)) (eqb-true t.0 u.0 parts.0) (same_flag t.1 u.1 parts.1)

    itself : same_counter t t ≡ true
    itself = both_true (eq-eqb t.0 t.0 refl) (same_flag_self t.1)

pub same_pair_is : (x y : Pair) → same_pair x y ≡ true → x ≡ y
same_pair_is x y e =
    let parts = and_parts (x.at == y.at && x.place == y.place) (pointwise same_counter x.counters y.counters) e in
    let more = and_parts (x.at == y.at) (x.place == y.place) parts.0 in
    let counters : x.counters ≡ y.counters = (pointwise_decides counters_decide x.counters y.counters).0 parts.1 in
    subst (λ n. x ≡ record { at = n; place = y.place; counters = y.counters }) (eqb-true x.at y.at more.0)
    (subst (λ i. x ≡ record { at = x.at; place = i; counters = y.counters }) (eqb-true x.place y.place more.1)
    (ap (λ k. record { at = x.at; place = x.place; counters = k }) counters))

pub same_pair_self : (x : Pair) → same_pair x x ≡ true
same_pair_self x =
    both_true (both_true (eq-eqb x.at x.at refl) (eq-eqb x.place x.place refl)) ((pointwise_decides counters_decide x.counters x.counters).1 refl)

-- ---- what a configuration keeps to

module _ (a : Analysis) (states : List NfaState) where
  since_fits : (loop : Loop) (since : Option ℕ) (place : ℕ) → SinceFits a loop since place → IsSince since place
  since_fits loop None place h = tt
  since_fits loop (Some i) place h = h.0

  all_since : (ts : List Task) (place : ℕ) → TasksFit a place ts → AllSince (counters_of ts) place
  all_since [] place h = tt
  all_since (Iterates loop e t ∷ ts) place h = (since_fits loop t.since place h.0.3, all_since ts place h.1)
  all_since (t ∷ ts) place h = all_since ts place h.1

  -- iterations began at or before the place
  config_since : (s : NfaConfig) (ts : List Task) (m : MatchState) → IsConfigOf a states s ts m → TasksFit a m.place ts →
      AllSince s.counters s.place
  config_since s ts m is fits =
      subst (λ counters. AllSince counters s.place) (sym (stands_counters a states s.at s.counters s.opened ts is.stands))
      (subst (λ i. AllSince (counters_of ts) i) (sym is.place) (all_since ts m.place fits))

  no_close : {o : Option NfaState} (x : NfaState) → o ≡ Some x → IsOpen [] (Some x) → IsOpen [] o
  no_close x e h = subst (λ o. IsOpen [] o) (sym e) h

  is_open : (ts : List Task) (p : ℕ) (counters : List LoopCounter) (opened : List ℕ) → Stands a states p counters opened ts →
      IsOpen opened (slice_get states p)
  is_open ts p counters (i ∷ opened) h = tt
  is_open [] p [] [] h = no_close Match h tt
  is_open [] p (t ∷ counters) [] h = absurd h
  is_open (Takes test ∷ ts) p counters [] h = no_close (Character test) h.0 tt
  is_open (Asserts x ∷ ts) p counters [] h = no_close (Holds x) h.0 tt
  is_open (Opens g e ∷ ts) p counters [] h = no_close Open h.0.0 tt
  is_open (Closes g from ∷ ts) p counters [] h = absurd h
  is_open (Chooses true e es ∷ ts) p counters [] h = no_close _ h.0.0 tt
  is_open (Chooses false e es ∷ ts) p counters [] h = no_close _ h.0.0 tt
  is_open (May true e ∷ ts) p counters [] h = no_close _ h.0.0 tt
  is_open (May false e ∷ ts) p counters [] h = no_close _ h.0.0 tt
  is_open (Stars true e ∷ ts) p counters [] h = no_close _ h.0.0 tt
  is_open (Stars false e ∷ ts) p counters [] h = no_close _ h.0.0 tt
  is_open (StartsPlus greedy e ∷ ts) p counters [] h = no_close _ h.0.0 tt
  is_open (Counts loop e ∷ ts) p counters [] h = no_close CounterBegin h.0.0 tt
  is_open (Iterates loop e u ∷ ts) p [] [] h = absurd h
  is_open (Iterates loop e u ∷ ts) p (t ∷ counters) [] h = no_close _ h.1.0 tt
  is_open (Jumps ∷ ts) p counters [] h = no_close _ h.1 tt
  is_open (Joins ∷ ts) p counters [] h = no_close Join h.0 tt

-- ---- pairs of configurations

append_none : (xs ys : List MatchState) → xs ++ ys ≡ [] → (xs ≡ []) × (ys ≡ [])
append_none [] ys e = (refl, e)
append_none (x ∷ xs) ys e = cc

none_appended : (xs ys : List MatchState) → xs ≡ [] → ys ≡ [] → xs ++ ys ≡ []
none_appended xs ys e h = ap (λ l. l ++ ys) e ∙ h

module _ (w : Ground) where
  abbrev text : List ℕ
  text = (w.setting).text

  -- configurations with the same pair are alike, and so is what they lead to
  alike : (s t : NfaConfig) → Position w s → Position w t → pair_of s ≡ pair_of t → AreAlike (step_result_of w s) (step_result_of w t)
  alike s t p r e =
      let at : s.at ≡ t.at = ap (λ x. x.at) e in
      let place : s.place ≡ t.place = ap (λ x. x.place) e in
      let there : keys s.place s.counters ≡ keys t.place t.counters = ap (λ x. x.counters) e in
      let same : keys s.place s.counters ≡ keys s.place t.counters
      = subst (λ n. keys s.place s.counters ≡ keys n t.counters) (sym place) there in
      let since = config_since w.analysis w.states s p.tasks p.state p.is_config p.fits in
      let since' = subst (λ n. AllSince t.counters n) (sym place) (config_since w.analysis w.states t r.tasks r.state r.is_config r.fits) in
      let closes = is_open w.analysis w.states p.tasks s.at s.counters s.opened (p.is_config).stands in
      let closes' = subst (λ n. IsOpen t.opened (slice_get w.states n)) (sym at)
      (is_open w.analysis w.states r.tasks t.at t.counters t.opened (r.is_config).stands) in
      subst (λ n. AreAlike (step_result_of w s) (step_at text (w.setting).unicode (slice_get w.states n) (record t { at = n }))) at
      (subst (λ i. AreAlike (step_result_of w s) (step_at text (w.setting).unicode (slice_get w.states s.at)
      (record t { at = s.at; place = i }))) place
      (steps_alike s.at s.place s.opened t.opened s.spans t.spans text (w.setting).unicode s.counters t.counters same
      (slice_get w.states s.at) closes closes' since since'))

  lower_still : {s t u : NfaConfig} (p : Position w s) (r : Position w t) (x : Position w u) → IsLower w x r → IsLower w r p →
      IsLower w x p
  lower_still p r x h k =
      ⊎_elim {C = IsLower w x p}
      (λ on. inl (⊎_elim {C = (p.state).place < (x.state).place} (λ on'. omega (arith, on, on')) (λ here. omega (arith, on, here.0)) k))
      (λ here. ⊎_elim {C = IsLower w x p} (λ on. inl (omega (arith, on, here.0)))
      (λ here'. inr (here'.0 ∙ here.0, omega (arith, here.1, here'.1))) k) h

  module _ (facts : StepFacts w) where
    -- ---- whether there is a way

    abbrev NoWayElsewhere : (s : NfaConfig) → Position w s → Type 0
    NoWayElsewhere s p = (t : NfaConfig) (r : Position w t) → pair_of s ≡ pair_of t → ways_at w p ≡ [] → ways_at w r ≡ []

    none_from : {s : NfaConfig} (p : Position w s) (ss ts : List NfaConfig) (rs : Positions w ss) (rs' : Positions w ts) →
        ((t : NfaConfig) (r : Position w t) → IsLower w r p → NoWayElsewhere t r) → AllAlike ss ts → AllLower w ss rs p →
        ways_from w ss rs ≡ [] → ways_from w ts rs' ≡ []
    none_from p [] [] rs rs' below h k e = refl
    none_from p [] (t ∷ ts) rs rs' below h k e = absurd h
    none_from p (s ∷ ss) [] rs rs' below h k e = absurd h
    none_from p (s ∷ ss) (t ∷ ts) rs rs' below h k e =
        let parts = append_none (ways_at w rs.0) (ways_from w ss rs.1) e in
        none_appended (ways_at w rs'.0) (ways_from w ts rs'.1)
        (below s rs.0 k.0 t rs'.0 h.0 parts.0) (none_from p ss ts rs.1 rs'.1 below h.1 k.1 parts.1)

    none_by : {s t : NfaConfig} (p : Position w s) (r : Position w t) (l k : StepResult) →
        ((u : NfaConfig) (x : Position w u) → IsLower w x p → NoWayElsewhere u x) → AreAlike l k → Step w p l → Step w r k →
        ways_at w p ≡ [] → ways_at w r ≡ []
    none_by p r Found k below h x y e = cc
    none_by p r Lost Lost below h x y e = y.0
    none_by p r (Goes u) (Goes v) below h x y e = sym y.2 ∙ below u x.0 x.1 v y.0 h (x.2 ∙ e)
    none_by p r (Tries b s ss) (Tries c t ts) below h x y e =
        sym y.2 ∙ none_from p (s ∷ ss) (t ∷ ts) x.0 y.0 below h x.1 (x.2 ∙ e)
    none_by p r l k below h x y e = absurd h

    pub same_ways : (s t : NfaConfig) (p : Position w s) (r : Position w t) → pair_of s ≡ pair_of t →
        ways_at w p ≡ [] → ways_at w r ≡ []
    same_ways s t p r =
        at_each w NoWayElsewhere
        (λ s p below t r e. none_by p r (step_result_of w s) (step_result_of w t) below (alike s t p r e) (step w facts p) (step w facts r))
        s p t r

    -- ---- no way back

    -- from a configuration with the same pair as s: one with the same pair as t, lower
    record Follows (t : NfaConfig) {s : NfaConfig} (p : Position w s) : Type 0 where
      position : Position w t
      config : NfaConfig
      other : Position w config
      same : pair_of t ≡ pair_of config
      lower : IsLower w other p

    follows_among : {s s' : NfaConfig} (p : Position w s) (p' : Position w s') (t : NfaConfig) (ss ts : List NfaConfig) (rs : Positions w ss)
        (rs' : Positions w ts) → AllAlike ss ts → AllLower w ts rs' p' → IsOneOf w ss t → Follows t p'
    follows_among p p' t [] ts rs rs' h k i = absurd i
    follows_among p p' t (s ∷ ss) [] rs rs' h k i = absurd h
    follows_among p p' t (s ∷ ss) (u ∷ ts) rs rs' h k i =
        ⊎_elim {C = Follows t p'}
        (λ e. record {
          position = subst (λ x. Position w x) e rs.0;
          config = u;
          other = rs'.0;
          same = subst (λ x. pair_of x ≡ pair_of u) e h.0;
          lower = k.0;
        })
        (λ i'. follows_among p p' t ss ts rs.1 rs'.1 h.1 k.1 i') i

    follows_by : {s s' : NfaConfig} (p : Position w s) (p' : Position w s') (t : NfaConfig) (l k : StepResult) → AreAlike l k → Step w p l →
        Step w p' k → LeadsTo w l t → Follows t p'
    follows_by p p' t Found k h x y i = absurd i
    follows_by p p' t Lost k h x y i = absurd i
    follows_by p p' t (Goes u) (Goes v) h x y i =
        record {
          position = subst (λ z. Position w z) i x.0;
          config = v;
          other = y.0;
          same = subst (λ z. pair_of z ≡ pair_of v) i h;
          lower = y.1;
        }
    follows_by p p' t (Tries b s ss) (Tries c u us) h x y i = follows_among p p' t (s ∷ ss) (u ∷ us) x.0 y.0 h y.1 i
    follows_by p p' t l k h x y i = absurd h

    follows : {s s' : NfaConfig} (p : Position w s) (p' : Position w s') (t : NfaConfig) → pair_of s ≡ pair_of s' →
        LeadsTo w (step_result_of w s) t → Follows t p'
    follows {s} {s'} p p' t e i =
        follows_by p p' t (step_result_of w s) (step_result_of w s') (alike s s' p p' e) (step w facts p) (step w facts p') i

    walks : {s s' t : NfaConfig} (p : Position w s) (p' : Position w s') → pair_of s ≡ pair_of s' → Reaches w s t → Follows t p'
    walks p p' e (in_one {t = t} i) = follows p p' t e i
    walks p p' e (in_more {t = u} {u = t} before i) =
        let x = walks p p' e before in
        let y = follows x.position x.other t x.same i in
        record {
          position = y.position;
          config = y.config;
          other = y.other;
          same = y.same;
          lower = lower_still p' x.other y.other y.lower x.lower;
        }

    pub no_return : (s t : NfaConfig) → Position w s → Reaches w s t → pair_of s ≡ pair_of t → ⊥
    no_return s t p reaches back =
        at_each w (λ s' p'. pair_of s ≡ pair_of s' → ⊥)
        (λ s' p' below e. let x = walks p p' e reaches in below x.config x.other x.lower (back ∙ x.same)) s p refl

    pub pair_facts : PairFacts w
    pair_facts = record { same_pairs = same_pair_is; itself = same_pair_self; same_ways = same_ways; no_return = no_return }
