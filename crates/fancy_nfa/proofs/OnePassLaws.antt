-- Ways that a search comes to without taking a choice back.
use Rattle.std.proofs.Common.{◌≡◌, ◌≤◌, ◌<◌, ◌+◌, ◌-◌, ◌&&◌, ◌∷◌, ℕ, zero, suc, true≢false, Bool, true, false, List, [], Option, Some, None, Result, Ok, Err, IfOk, IsTrue, if◌then◌else◌, option_map, map, slice_get, refl, sym, ap, ap₂, ◌∙◌, subst, arith}
use Rattle.std.proofs.lemmas.Bool.{cond-false}
use Rattle.std.proofs.lemmas.Str.{len_utf8_bounds}
use denote.Bor.{Bor}
use Rattle.std.specs.declared.alloc.AllocError.{AllocError}
use Rattle.fancy_meaning.specs.Moves.{past_char}
use Rattle.fancy_meaning.specs.Options.{Analysis}
use Rattle.fancy_meaning.specs.Tree.{Tree}
use Rattle.fancy_meaning.specs.Places.{is_place}
use Rattle.fancy_meaning.specs.Premises.{IsText}
use Rattle.fancy_laws.proofs.Moves.{past_char_tells}
use Rattle.fancy_nfa_laws.specs.NfaStates as states
use Rattle.fancy_nfa_laws.specs.NfaSearch as plain
use Rattle.fancy_nfa_laws.specs.NfaSearch.{Ends, Fails, Goes, Lost, Other, Search, TakesBack, TakesUp, first_search, goes_to, pair_of, passes}
use Rattle.fancy_nfa_laws.specs.FirstWays.{Seen, first_seen, no_pairs, searched, seen_of, spans_of}
use Rattle.fancy_meaning.specs.MatchState.{Span}
use Rattle.fancy_backtrack.specs.declared.trail.NfaConfig.{NfaConfig}
use Rattle.fancy_nfa.specs.declared.nfa_state.CharTest.{CharTest}
use Rattle.fancy_nfa.specs.declared.nfa_state.NfaState.{NfaState}
use Rattle.fancy_nfa.specs.declared.nfa_state.NfaState.TheVariants as nfa_state
use Rattle.fancy_nfa.specs.declared.search.Searcher.{Searcher}
use Rattle.fancy_nfa.specs.declared.one_pass.OnePass.{OnePass}
use Rattle.fancy_nfa.specs.declared.one_pass.OnePass.TheVariants as one_pass
use Rattle.fancy_nfa.specs.declared.nfa.Nfa.{Nfa}
use Rattle.fancy_nfa.specs.AsciiRuns.{AllPass}
use Rattle.fancy_nfa.specs.Runs.{FailsFrom, IsBody, Passes}
use Rattle.fancy_nfa.specs.Searches.{after_steps_of, next_of}
use Rattle.fancy_nfa.specs.OnePass.{AreBranches, AreFails, ComesPast, EndsOnePass, EndsOnePassWith, Finds, IsBlank, IsChoice, IsOnePass, IsOnePassWay, IsSeenWay, Loses, RunsOn, RunsPast, Succeeds, Walks, closed_by, config_at, opened_at}
use Rattle.fancy_nfa.specs.declared.one_pass.Passed.{Passed}
use Rattle.fancy_nfa.specs.declared.one_pass.Passed.TheVariants as passed
use Rattle.fancy_nfa.specs.declared.group_spans.GroupSpans.{GroupSpans}
use Rattle.fancy_nfa.specs.GroupSpans.{AreGroupsOf, spans_in}
use Rattle.fancy_nfa.specs.Nfas.{IsNfaOf}
use Rattle.fancy_nfa.specs.Views.{state_of, test_of}
use Rattle.fancy_nfa.proofs.BackLaws.{steps_then}
use Rattle.fancy_nfa.proofs.FirstWayLaws.{finds, same_end, way_at}
use Rattle.fancy_nfa.proofs.RunLaws.{passes_by}
use Rattle.fancy_nfa.proofs.SearchLaws.{next_there}

-- a character that is taken moves on
pub past_char_further : (text : List ℕ) (test : ℕ → Bool) (i j : ℕ) → past_char text test i ≡ Some j → i < j
past_char_further text test i j e =
    let p = past_char_tells text test i j e in
    let some = (len_utf8_bounds p.char).0 in
    omega (arith, p.to, some)

pub and_parts : (b c : Bool) → (b && c) ≡ true → (b ≡ true) × (c ≡ true)
and_parts true true e = (refl, refl)
and_parts true false e = absurd (true≢false (sym e))
and_parts false c e = absurd (true≢false (sym e))

pub not_sure : {A : Type 0} → false ≡ true → A
not_sure e = cc

module _ (searcher : Searcher) where
  abbrev pub Test : CharTest → ℕ → Bool
  Test test = passes (searcher.text).now searcher.unicode (test_of test)

  -- ---- one walk behind another

  pub stays : (s : plain.NfaConfig) → Walks searcher true s s
  stays s f blank = (0, (f, (refl, blank, λ e h. h)))

  pub joined : (b c d : Bool) (s t u : plain.NfaConfig) → (d ≡ true → (b ≡ true) × (c ≡ true)) →
      Walks searcher b s t → Walks searcher c t u → Walks searcher d s u
  joined b c d s t u sure w v f blank =
      let x = w f blank in
      let y = v x.1.0 x.1.1.1 in (
        x.0 + y.0,
        (
          y.1.0,
          (
            steps_then searcher x.0 y.0 (TakesUp s f) (TakesUp t x.1.0) x.1.1.0 ∙ y.1.1.0,
            y.1.1.1,
            λ e h. y.1.1.2 (sure e).1 (x.1.1.2 (sure e).0 h),
          ),
        ),
      )

  -- as sure as may be
  pub as_sure : (b : Bool) (s t : plain.NfaConfig) → Walks searcher true s t → Walks searcher b s t
  as_sure b s t w = joined true true b s t t (λ e. (refl, refl)) w (stays t)

  pub remains : (b : Bool) (s : plain.NfaConfig) → Walks searcher b s s
  remains b s = as_sure b s s (stays s)

  -- on without a choice
  pub onward : (b : Bool) (s t u : plain.NfaConfig) → Walks searcher b s t → Walks searcher true t u → Walks searcher b s u
  onward b s t u w v = joined b true b s t u (λ e. (e, refl)) w v

  -- and where that leads nowhere
  pub loses_behind : (s t : plain.NfaConfig) → Walks searcher true s t → Loses searcher t → Loses searcher s
  loses_behind s t w v f blank =
      let x = w f blank in
      let y = v x.1.0 x.1.1.1 in (
        x.0 + y.0,
        (
          y.1.0,
          (
            steps_then searcher x.0 y.0 (TakesUp s f) (TakesUp t x.1.0) x.1.1.0 ∙ y.1.1.0,
            λ h. y.1.1.1 (x.1.1.2 refl h),
          ),
        ),
      )

  -- back to the beginning
  goes_back : (frames : List plain.Frame) (f : Search) → f.frames ≡ frames → AreFails frames →
      (steps : ℕ) × ((g : Search) × (after_steps_of searcher steps (TakesBack f) ≡ Ends None g))
  goes_back [] f e h = (1, (f, ap (λ l. plain.back_to l f) e))
  goes_back (Other s ∷ frames) f e h = absurd h
  goes_back (Fails s ∷ frames) f e h =
      let x = goes_back frames (plain.with_failed (pair_of s) (record f { frames = frames })) refl h in
      (suc x.0, (x.1.0, ap (λ l. after_steps_of searcher x.0 (plain.back_to l f)) e ∙ x.1.1))

  pub finds_none : (ix : ℕ) (s : plain.NfaConfig) → Walks searcher true (plain.first_config ix) s → Loses searcher s → Finds searcher ix None
  finds_none ix s w v =
      let x = loses_behind (plain.first_config ix) s w v (first_search (λ q. false)) (λ q. refl) in
      let y = goes_back x.1.0.frames x.1.0 refl (x.1.1.1 tt) in (
        x.0 + y.0,
        (
          y.1.0,
          steps_then searcher x.0 y.0 (TakesUp (plain.first_config ix) (first_search (λ q. false))) (TakesBack x.1.0) x.1.1.0 ∙ y.1.1,
        ),
      )

  pub unsure_by : (b : Bool) (s t : plain.NfaConfig) → Walks searcher b s t → Walks searcher false s t
  unsure_by b s t w = joined b true false s t t (λ e. not_sure e) w (stays t)

  -- on with one
  pub by_choice : (b c : Bool) (s t u : plain.NfaConfig) → Walks searcher b s t → Walks searcher c t u → Walks searcher false s u
  by_choice b c s t u w v = joined b c false s t u (λ e. not_sure e) w v

  -- ---- a step

  abbrev at_state : ℕ → NfaConfig
  at_state i = record { at = i; place = 0; counters = 0; opened = 0 }

  counted_blank : (c : Bool) (f : Search) → IsBlank f → IsBlank (if c then record f { visits = f.visits + 1 } else f)
  counted_blank true f blank = blank
  counted_blank false f blank = blank

  counted_fails : (c : Bool) (f : Search) → AreFails f.frames → AreFails (if c then record f { visits = f.visits + 1 } else f).frames
  counted_fails true f h = h
  counted_fails false f h = h

  -- but for the visits it is the same
  counted_visits : (c : Bool) (f : Search) →
      (n : ℕ) × (((if c then record f { visits = f.visits + 1 } else f) ≡ record f { visits = f.visits + n })
      × ((if c then record f { visits = f.visits + 1 } else f).visits ≡ f.visits + n))
  counted_visits true f = (1, (refl, refl))
  counted_visits false f =
      let none : f.visits ≡ f.visits + 0 = omega arith in
      (0, (ap (λ n. record f { visits = n }) none, none))

  module _ (p : NfaState) (s : plain.NfaConfig) (there : slice_get (searcher.states).now s.at ≡ Some p) where
    stepped : (f : Search) (l : plain.StepResult) → plain.step_by (searcher.text).now searcher.unicode (state_of p) s ≡ l →
        next_of searcher (TakesUp s f) ≡ plain.next_by l (Some (state_of p)) s f
    stepped f l leads = next_there searcher p (at_state s.at) s refl there f ∙ ap (λ x. plain.next_by x (Some (state_of p)) s f) leads

    pub goes : (t : plain.NfaConfig) → plain.step_by (searcher.text).now searcher.unicode (state_of p) s ≡ Goes t → Walks searcher true s t
    goes t leads f blank =
        let c = plain.is_counted (Some (state_of p)) in
        (1, (plain.visited (Some (state_of p)) f, (stepped f (Goes t) leads, counted_blank c f blank, λ e. counted_fails c f)))

    -- where it is the end
    pub ends : (b : Bool) (ix : ℕ) → plain.step_by (searcher.text).now searcher.unicode (state_of p) s ≡ plain.Found →
        Walks searcher b (plain.first_config ix) s → Finds searcher ix (Some s)
    ends b ix leads w =
        let x = w (first_search (λ q. false)) (λ q. refl) in (
          x.0 + 1,
          (
            plain.visited (Some (state_of p)) x.1.0,
            steps_then searcher x.0 1 (TakesUp (plain.first_config ix) (first_search (λ q. false))) (TakesUp s x.1.0) x.1.1.0
                ∙ stepped x.1.0 plain.Found leads,
          ),
        )

    -- where it leads nowhere
    pub loses : plain.step_by (searcher.text).now searcher.unicode (state_of p) s ≡ Lost → Loses searcher s
    loses leads f blank =
        (1, (plain.visited (Some (state_of p)) f, (stepped f Lost leads, counted_fails (plain.is_counted (Some (state_of p))) f)))

    pub lost : (ix : ℕ) → plain.step_by (searcher.text).now searcher.unicode (state_of p) s ≡ Lost →
        Walks searcher true (plain.first_config ix) s → Finds searcher ix None
    lost ix leads w = finds_none ix s w (loses leads)

    -- on at the only way, where the pair is one that is memoized
    pub tries_only : (t : plain.NfaConfig) → plain.step_by (searcher.text).now searcher.unicode (state_of p) s ≡ plain.Tries true t [] →
        Walks searcher true s t
    tries_only t leads f blank =
        let c = plain.is_counted (Some (state_of p)) in (
          1,
          (
            plain.with_frames (Fails s ∷ []) (plain.visited (Some (state_of p)) f),
            (
              stepped f (plain.Tries true t []) leads ∙ cond-false (f.failed (pair_of s)) _ _ (blank (pair_of s)),
              counted_blank c f blank,
              λ e. counted_fails c f,
            ),
          ),
        )

    -- on at the first of two ways, with the other kept for later
    pub tries_first : (is_memoized : Bool) (t u : plain.NfaConfig) →
        plain.step_by (searcher.text).now searcher.unicode (state_of p) s ≡ plain.Tries is_memoized t (u ∷ []) →
        Walks searcher false s t
    tries_first false t u leads f blank =
        let c = plain.is_counted (Some (state_of p)) in
        let v = plain.visited (Some (state_of p)) f in (
          1,
          (
            plain.with_frames (Other u ∷ []) v,
            (stepped f (plain.Tries false t (u ∷ [])) leads, counted_blank c f blank, λ e h. not_sure e),
          ),
        )
    tries_first true t u leads f blank =
        let c = plain.is_counted (Some (state_of p)) in
        let v = plain.visited (Some (state_of p)) f in (
          1,
          (
            plain.with_frames (Other u ∷ Fails s ∷ []) v,
            (
              stepped f (plain.Tries true t (u ∷ [])) leads ∙ cond-false (f.failed (pair_of s)) _ _ (blank (pair_of s)),
              counted_blank c f blank,
              λ e h. not_sure e,
            ),
          ),
        )

    -- on at the second of two ways, where the first one fails
    pub tries_second : (t u : plain.NfaConfig) → plain.step_by (searcher.text).now searcher.unicode (state_of p) s ≡ plain.Tries false t (u ∷ []) →
        FailsFrom searcher t.at t.place → Walks searcher true s u
    tries_second t u leads fails f blank =
        let c = plain.is_counted (Some (state_of p)) in
        let v = plain.visited (Some (state_of p)) f in
        let g : Search = plain.with_frames (Other u ∷ []) v in
        let x = fails t g refl refl in
        let gone : after_steps_of searcher (1 + x.0) (TakesUp s f) ≡ TakesBack (record g { visits = g.visits + x.1.0 }) =
        steps_then searcher 1 x.0 (TakesUp s f) (TakesUp t g) (stepped f (plain.Tries false t (u ∷ [])) leads) ∙ x.1.1 in (
          1 + x.0 + 1,
          (
            record v { visits = v.visits + x.1.0 },
            (
              steps_then searcher (1 + x.0) 1 (TakesUp s f) (TakesBack (record g { visits = g.visits + x.1.0 })) gone,
              counted_blank c f blank,
              λ e. counted_fails c f,
            ),
          ),
        )

    -- and where the pair is one that is memoized
    pub tries_memoized : (t u : plain.NfaConfig) → plain.step_by (searcher.text).now searcher.unicode (state_of p) s ≡ plain.Tries true t (u ∷ []) →
        FailsFrom searcher t.at t.place → Walks searcher true s u
    tries_memoized t u leads fails f blank =
        let c = plain.is_counted (Some (state_of p)) in
        let v = plain.visited (Some (state_of p)) f in
        let g : Search = plain.with_frames (Other u ∷ Fails s ∷ []) v in
        let x = fails t g refl refl in
        let up : next_of searcher (TakesUp s f) ≡ TakesUp t g =
        stepped f (plain.Tries true t (u ∷ [])) leads ∙ cond-false (f.failed (pair_of s)) _ _ (blank (pair_of s)) in
        let gone : after_steps_of searcher (1 + x.0) (TakesUp s f) ≡ TakesBack (record g { visits = g.visits + x.1.0 }) =
        steps_then searcher 1 x.0 (TakesUp s f) (TakesUp t g) up ∙ x.1.1 in (
          1 + x.0 + 1,
          (
            record v { frames = Fails s ∷ v.frames; visits = v.visits + x.1.0 },
            (
              steps_then searcher (1 + x.0) 1 (TakesUp s f) (TakesBack (record g { visits = g.visits + x.1.0 })) gone,
              counted_blank c f blank,
              λ e. counted_fails c f,
            ),
          ),
        )

  -- the end, perhaps behind a jump
  pub succeeds : (base : plain.NfaConfig) (at place : ℕ) → slice_get (searcher.states).now at ≡ Some nfa_state.Match →
      Succeeds searcher (config_at base at place)
  succeeds base at place there f blank =
      (at, (1, (plain.visited (Some states.Match) f, stepped nfa_state.Match (config_at base at place) there f plain.Found refl)))

  -- a walk to the end finds it
  pub finds_end : (b : Bool) (ix : ℕ) (s : plain.NfaConfig) → Walks searcher b (plain.first_config ix) s → (e : Succeeds searcher s) →
      (at : ℕ) × Finds searcher ix (Some (config_at s at s.place))
  finds_end b ix s w e =
      let x = w (first_search (λ q. false)) (λ q. refl) in
      let y = e x.1.0 x.1.1.1 in (
        y.0,
        (
          x.0 + y.1.0,
          (
            y.1.1.0,
            steps_then searcher x.0 y.1.0 (TakesUp (plain.first_config ix) (first_search (λ q. false))) (TakesUp s x.1.0) x.1.1.0 ∙ y.1.1.1,
          ),
        ),
      )

  pub ends_bare : (ix place : ℕ) → (at : ℕ) × Finds searcher ix (Some (config_at (plain.first_config ix) at place)) →
      EndsOnePass searcher ix (one_pass.Ends place)
  ends_bare ix place h a es states_are = (config_at (plain.first_config ix) h.0 place, (h.1, refl, refl))

  -- a group ends
  pub closes : (group : ℕ) (base : plain.NfaConfig) (at place : ℕ) → slice_get (searcher.states).now at ≡ Some (nfa_state.Close group) →
      (opened : List ℕ) → base.opened ≡ opened → Walks searcher true (config_at base at place) (closed_by base group opened (at + 1) place)
  closes group base at place there [] is =
      goes (nfa_state.Close group) (config_at base at place) there (config_at base (at + 1) place) (ap (plain.close_step group (config_at base at place)) is)
  closes group base at place there (from ∷ opened) is =
      goes (nfa_state.Close group) (config_at base at place) there (closed_by base group (from ∷ opened) (at + 1) place)
      (ap (plain.close_step group (config_at base at place)) is)

  -- ---- a state behind a jump

  pub comes_behind : (at to place : ℕ) (p : Passed) → ((s : plain.NfaConfig) → Walks searcher true (config_at s at place) (config_at s to place)) →
      ComesPast searcher to place p → ComesPast searcher at place p
  comes_behind at to place (passed.On next end is_sure) w c = λ s.
      joined true is_sure is_sure (config_at s at place) (config_at s to place) (config_at s next end) (λ e. (refl, e)) (w s) (c s)
  comes_behind at to place passed.Ends w c = λ s f blank.
      let x = w s f blank in
      let y = c s x.1.0 x.1.1.1 in (
        y.0,
        (
          x.0 + y.1.0,
          (
            y.1.1.0,
            steps_then searcher x.0 y.1.0 (TakesUp (config_at s at place) f) (TakesUp (config_at s to place) x.1.0) x.1.1.0 ∙ y.1.1.1,
          ),
        ),
      )
  comes_behind at to place (passed.Opens next) w c = λ s.
      onward true (config_at s at place) (config_at s to place) (opened_at s next place) (w s) (c s)
  comes_behind at to place (passed.Closes group next) w c = λ s opened e.
      onward true (config_at s at place) (config_at s to place) (closed_by s group opened next place) (w s) (c s opened e)
  comes_behind at to place passed.Fails w c = λ s. loses_behind (config_at s at place) (config_at s to place) (w s) (c s)
  comes_behind at to place passed.Unknown w c = tt

  pub comes_behind_answered : (at to place : ℕ) (r : Result Passed AllocError) →
      ((s : plain.NfaConfig) → Walks searcher true (config_at s at place) (config_at s to place)) →
      IfOk r (ComesPast searcher to place) → IfOk r (ComesPast searcher at place)
  comes_behind_answered at to place (Ok p) w c = comes_behind at to place p w c
  comes_behind_answered at to place (Err e) w c = tt

  -- ---- choices

  -- on at the first of two ways, or at the second where the first one fails: that is sure then
  pub chosen_of : (base : plain.NfaConfig) (at first second place : ℕ) (is_lost : Bool) → IsChoice searcher at first second →
      (is_lost ≡ true → FailsFrom searcher first place) →
      Walks searcher is_lost (config_at base at place) (config_at base (if is_lost then second else first) place)
  chosen_of base at first second place true (p, (there, (false, leads))) fails =
      tries_second p (config_at base at place) there (config_at base first place) (config_at base second place) (leads (config_at base at place)) (fails refl)
  chosen_of base at first second place true (p, (there, (true, leads))) fails =
      tries_memoized p (config_at base at place) there (config_at base first place) (config_at base second place) (leads (config_at base at place)) (fails refl)
  chosen_of base at first second place false (p, (there, (is_memoized, leads))) fails =
      tries_first p (config_at base at place) there is_memoized (config_at base first place) (config_at base second place)
      (leads (config_at base at place))

  pub branches_choice : (at first second : ℕ) → AreBranches searcher at first second → IsChoice searcher at first second
  branches_choice at first second h = (h.0, (h.1.0, (false, h.1.1)))

  pub loop_choice : (at first second : ℕ) → slice_get (searcher.states).now at ≡ Some (nfa_state.LoopSplit first second) → IsChoice searcher at first second
  loop_choice at first second there = (nfa_state.LoopSplit first second, (there, (true, λ s. refl)))

  -- sure as long as it was, and as long as what was chosen is
  pub both_sure : (b c : Bool) (s t u : plain.NfaConfig) → Walks searcher b s t → Walks searcher c t u → Walks searcher (b && c) s u
  both_sure b c s t u w v = joined b c (b && c) s t u (and_parts b c) w v

  -- ---- what fails at once

  -- a jump to what fails
  pub jump_fails : (at to place : ℕ) → slice_get (searcher.states).now at ≡ Some (nfa_state.Jump to) → FailsFrom searcher to place → FailsFrom searcher at place
  jump_fails at to place there fails s f is here =
      let x = fails (goes_to to s) f refl here in (
        1 + x.0,
        (
          x.1.0,
          steps_then searcher 1 x.0 (TakesUp s f) (TakesUp (goes_to to s) f) (next_there searcher (nfa_state.Jump to) (at_state at) s (sym is) there f) ∙ x.1.1,
        ),
      )

  -- what fails, where a group begins before it
  pub open_fails : (at place : ℕ) → slice_get (searcher.states).now at ≡ Some nfa_state.Open → FailsFrom searcher (at + 1) place → FailsFrom searcher at place
  open_fails at place there fails s f is here =
      let on : plain.NfaConfig = opened_at s (s.at + 1) s.place in
      let v : Search = record f { visits = f.visits + 1 } in
      let x = fails on v (ap (λ i. i + 1) is) here in
      let visits : f.visits + 1 + x.1.0 ≡ f.visits + (1 + x.1.0) = omega arith in (
        1 + x.0,
        (
          1 + x.1.0,
          steps_then searcher 1 x.0 (TakesUp s f) (TakesUp on v) (next_there searcher nfa_state.Open (at_state at) s (sym is) there f) ∙ x.1.1
              ∙ ap (λ n. TakesBack (record f { visits = n })) visits,
        ),
      )

  -- and where a group ends before it
  pub close_fails : (group at place : ℕ) → slice_get (searcher.states).now at ≡ Some (nfa_state.Close group) → FailsFrom searcher (at + 1) place →
      FailsFrom searcher at place
  close_fails group at place there fails s f is here = go s.opened refl
    where
      step : (opened : List ℕ) → s.opened ≡ opened →
          next_of searcher (TakesUp s f) ≡ plain.next_by (plain.close_step group s opened) (Some (states.Close group)) s f
      step opened e =
          next_there searcher (nfa_state.Close group) (at_state at) s (sym is) there f
          ∙ ap (λ o. plain.next_by (plain.close_step group s o) (Some (states.Close group)) s f) e

      go : (opened : List ℕ) → s.opened ≡ opened →
          (steps : ℕ) × ((n : ℕ) × (after_steps_of searcher steps (TakesUp s f) ≡ TakesBack (record f { visits = f.visits + n })))
      go [] e =
          let x = fails (plain.forward s) f (ap (λ i. i + 1) is) here in
          (suc x.0, (x.1.0, ap (after_steps_of searcher x.0) (step [] e) ∙ x.1.1))
      go (from ∷ opened) e =
          let on : plain.NfaConfig = record (plain.forward s) { opened = opened; spans = (group, (from, s.place)) ∷ s.spans } in
          let x = fails on f (ap (λ i. i + 1) is) here in
          (suc x.0, (x.1.0, ap (after_steps_of searcher x.0) (step (from ∷ opened) e) ∙ x.1.1))

  -- two ways that fail
  pub branches_fail : (p : NfaState) (at first second place : ℕ) → slice_get (searcher.states).now at ≡ Some p →
      ((s : plain.NfaConfig) → plain.step_by (searcher.text).now searcher.unicode (state_of p) s
      ≡ plain.Tries false (goes_to first s) (goes_to second s ∷ [])) →
      FailsFrom searcher first place → FailsFrom searcher second place → FailsFrom searcher at place
  branches_fail p at first second place there leads one other s f is here =
      let v = plain.visited (Some (state_of p)) f in
      let g : Search = plain.with_frames (Other (goes_to second s) ∷ []) v in
      let x = one (goes_to first s) g refl here in
      let h : Search = record v { visits = v.visits + x.1.0 } in
      let y = other (goes_to second s) h refl here in
      let up : next_of searcher (TakesUp s f) ≡ TakesUp (goes_to first s) g =
      next_there searcher p (at_state at) s (sym is) there f ∙ ap (λ l. plain.next_by l (Some (state_of p)) s f) (leads s) in
      let back : after_steps_of searcher (1 + x.0) (TakesUp s f) ≡ TakesBack (record g { visits = g.visits + x.1.0 }) =
      steps_then searcher 1 x.0 (TakesUp s f) (TakesUp (goes_to first s) g) up ∙ x.1.1 in
      let on : after_steps_of searcher (1 + x.0 + 1) (TakesUp s f) ≡ TakesUp (goes_to second s) h =
      steps_then searcher (1 + x.0) 1 (TakesUp s f) (TakesBack (record g { visits = g.visits + x.1.0 })) back in
      let c = counted_visits (plain.is_counted (Some (state_of p))) f in
      let visits : v.visits + x.1.0 + y.1.0 ≡ f.visits + (c.0 + x.1.0 + y.1.0) = omega (arith, c.1.1) in (
        1 + x.0 + 1 + y.0,
        (
          c.0 + x.1.0 + y.1.0,
          steps_then searcher (1 + x.0 + 1) y.0 (TakesUp s f) (TakesUp (goes_to second s) h) on ∙ y.1.1
              ∙ ap (λ n. TakesBack (record v { visits = n })) visits ∙ ap (λ w. TakesBack (record w { visits = f.visits + (c.0 + x.1.0 + y.1.0) })) c.1.0,
        ),
      )

  -- ---- a loop over one test

  module _ (base : plain.NfaConfig) (test : CharTest) (head first second : ℕ) (loop_split : slice_get (searcher.states).now head ≡ Some (nfa_state.LoopSplit first second))
      (body : IsBody (searcher.states).now head first test) where
    abbrev taken : ℕ → Search → Search
    taken i f = record f {
      frames = Other (config_at base second i) ∷ Fails (config_at base head i) ∷ f.frames;
      visits = f.visits + 1;
    }

    loop_splits : (i : ℕ) (f : Search) → IsBlank f →
        next_of searcher (TakesUp (config_at base head i) f) ≡ TakesUp (config_at base first i) (taken i f)
    loop_splits i f blank =
        next_there searcher (nfa_state.LoopSplit first second) (at_state head) (config_at base head i) refl loop_split f
        ∙ cond-false (f.failed (pair_of (config_at base head i))) _ _ (blank (pair_of (config_at base head i)))

    goes_in : (i : ℕ) → Walks searcher false (config_at base head i) (config_at base first i)
    goes_in i f blank = (1, (taken i f, (loop_splits i f blank, blank, λ e h. not_sure e)))

    -- a character that passes
    pub iterates : (i j : ℕ) → past_char (searcher.text).now (Test test) i ≡ Some j → Walks searcher false (config_at base head i) (config_at base head j)
    iterates i j past =
        let took : Walks searcher true (config_at base first i) (config_at base (first + 1) j) =
        goes (nfa_state.Character test) (config_at base first i) body.0 (config_at base (first + 1) j) (ap (plain.goes_past (config_at base first i)) past) in
        let back : Walks searcher true (config_at base (first + 1) j) (config_at base head j) =
        goes (nfa_state.Jump head) (config_at base (first + 1) j) body.1 (config_at base head j) refl in
        onward false (config_at base head i) (config_at base (first + 1) j) (config_at base head j)
        (onward false (config_at base head i) (config_at base first i) (config_at base (first + 1) j) (goes_in i) took) back

    -- none that passes
    pub exits : (i : ℕ) → past_char (searcher.text).now (Test test) i ≡ None → Walks searcher true (config_at base head i) (config_at base second i)
    exits i none f blank =
        let g = taken i f in
        let gone : next_of searcher (TakesUp (config_at base first i) g) ≡ TakesBack (record g { visits = g.visits + 1 }) =
        next_there searcher (nfa_state.Character test) (at_state first) (config_at base first i) refl body.0 g
        ∙ ap (λ o. plain.next_by (plain.goes_past (config_at base first i) o) (Some (states.Character (test_of test))) (config_at base first i) g) none in (
          3,
          (
            record f { frames = Fails (config_at base head i) ∷ f.frames; visits = f.visits + 1 + 1 },
            (ap (after_steps_of searcher 2) (loop_splits i f blank) ∙ ap (next_of searcher) gone, blank, λ e h. h),
          ),
        )

  -- over a character more
  pub runs_further : (test : CharTest) (from i j : ℕ) → RunsOn searcher test from i → past_char (searcher.text).now (Test test) i ≡ Some j →
      RunsOn searcher test from j
  runs_further test from i j on past = λ base head first second loop_split body.
      by_choice false false (config_at base head from) (config_at base head i) (config_at base head j) (on base head first second loop_split body)
      (iterates base test head first second loop_split body i j past)

  pub runs_both : (test : CharTest) (from i j : ℕ) → RunsOn searcher test from i → RunsOn searcher test i j → RunsOn searcher test from j
  runs_both test from i j on more = λ base head first second loop_split body.
      by_choice false false (config_at base head from) (config_at base head i) (config_at base head j) (on base head first second loop_split body)
      (more base head first second loop_split body)

  -- over none
  pub runs_none : (test : CharTest) (i : ℕ) → RunsOn searcher test i i
  runs_none test i = λ base head first second loop_split body. remains false (config_at base head i)

  -- over each character up to a place
  pub runs_over : (test : CharTest) (from n : ℕ) → ((i : ℕ) → from ≤ i → i < from + n → Passes searcher test i) → RunsOn searcher test from (from + n)
  runs_over test from zero each = subst (RunsOn searcher test from) {x = from} (omega arith) (runs_none test from)
  runs_over test from (suc n) each =
      subst (RunsOn searcher test from) {x = from + n + 1} (omega arith)
      (runs_further test from (from + n) (from + n + 1)
      (runs_over test from n (λ i on below. each i on (omega (arith, below)))) (each (from + n) (omega arith) (omega arith)))

  -- over characters of ASCII that pass
  pub runs_ascii : (bytes : List ℕ) (test : CharTest) (from to : ℕ) → bytes ≡ (searcher.text).now →
      AllPass (passes [] searcher.unicode (test_of test)) bytes from to → from ≤ to → RunsOn searcher test from to
  runs_ascii bytes test from to e all on =
      subst (RunsOn searcher test from) {x = from + (to - from)} (omega (arith, on))
      (runs_over test from (to - from)
      (λ i further below.
      let h = all i further (omega (arith, on, below)) in passes_by bytes searcher test i e h.0 h.1 h.2))

  -- and out of the loop
  pub runs_out : (test : CharTest) (from i : ℕ) → RunsOn searcher test from i → past_char (searcher.text).now (Test test) i ≡ None →
      RunsPast searcher test from i
  runs_out test from i on none = λ base head first second loop_split body.
      onward false (config_at base head from) (config_at base head i) (config_at base second i) (on base head first second loop_split body)
      (exits base test head first second loop_split body i none)

-- ---- what a walk to the end answers

module _ (states : Bor (List NfaState)) (text : Bor (List ℕ)) (f : Nfa) (place : ℕ) (same : states.now ≡ f.states.items)
    (is_text : IsText text.now) (at : IsTrue (is_place text.now place)) where
  abbrev nfa_searcher : Searcher
  nfa_searcher = record { states = states; unicode = f.unicode; text = text }

  -- a search that ends so finds the first way
  first_at : (way : Option plain.NfaConfig) → Finds nfa_searcher place way → (a : Analysis) (es : List Tree) → IsNfaOf a es f.unicode f →
      (pos : ℕ) (continued : Bool) →
      first_seen (record { text = text.now; pos = pos; continued = continued; unicode = f.unicode }) es place ≡ option_map seen_of way
  first_at way (steps, (g, e)) a es h pos continued =
      let ended = subst (λ ps. searched text.now f.unicode (map state_of ps) (λ p. false) place steps ≡ Ends way g) same e in
      sym (finds text.now f place (λ p. false) is_text at no_pairs a es h pos continued).first
      ∙ ap (λ n. option_map seen_of (way_at n))
      (sym (same_end text.now f place (λ p. false) is_text at no_pairs a es h pos continued steps way g ended))

  pub one_pass_is : (r : OnePass) → EndsOnePass nfa_searcher place r → IsOnePass text.now f place r
  one_pass_is (one_pass.Ends end) h = λ a es is pos continued.
      let states_are = ap (map state_of) same ∙ is.states in
      let x = h a es (is.easy, states_are) in
      first_at (Some x.0) x.1.0 a es is pos continued ∙ ap₂ (λ i spans. Some (i, spans_of spans)) x.1.1 x.1.2
  one_pass_is one_pass.Fails h = first_at None h
  one_pass_is one_pass.Unknown h = tt

  pub one_pass_answered : (r : Result OnePass AllocError) → IfOk r (EndsOnePass nfa_searcher place) → IfOk r (IsOnePass text.now f place)
  one_pass_answered (Ok r) h = one_pass_is r h
  one_pass_answered (Err e) h = tt

  -- a way that is seen so
  seen_way : (s : plain.NfaConfig) (end : ℕ) (spans : ℕ → Option Span) (o : Option Seen) → s.place ≡ end →
      ((g : ℕ) → spans g ≡ spans_of s.spans g) → o ≡ Some (seen_of s) → IsSeenWay end spans o
  seen_way s end spans o place same e =
      subst (IsSeenWay end spans) (sym e) (sym place, same)

  pub one_pass_way_is : (groups : GroupSpans) (r : OnePass) → EndsOnePassWith nfa_searcher place groups r →
      IsOnePassWay text.now f place (spans_in groups) r
  one_pass_way_is groups (one_pass.Ends end) (s, (found, ends, same)) = λ a es h pos continued.
      seen_way s end (spans_in groups) _ ends same (first_at (Some s) found a es h pos continued)
  one_pass_way_is groups one_pass.Fails h = first_at None h
  one_pass_way_is groups one_pass.Unknown h = tt

  pub one_pass_way_answered : (groups : GroupSpans) (r : Result OnePass AllocError) → IfOk r (EndsOnePassWith nfa_searcher place groups) →
      IfOk r (IsOnePassWay text.now f place (spans_in groups))
  one_pass_way_answered groups (Ok r) h = one_pass_way_is groups r h
  one_pass_way_answered groups (Err e) h = tt

-- ---- a way that sets no group

module _ (text : List ℕ) (f : Nfa) (place : ℕ) (groups : GroupSpans) (none : AreGroupsOf groups [] []) where
  sets_none : (r : OnePass) → IsOnePass text f place r → IsOnePassWay text f place (spans_in groups) r
  sets_none (one_pass.Ends end) h = λ a es is pos continued.
      subst (IsSeenWay end (spans_in groups)) (sym (h a es is pos continued)) (refl, none.1)
  sets_none one_pass.Fails h = h
  sets_none one_pass.Unknown h = tt

  pub way_of_none : (r : Result OnePass AllocError) → IfOk r (IsOnePass text f place) → IfOk r (IsOnePassWay text f place (spans_in groups))
  way_of_none (Ok r) h = sets_none r h
  way_of_none (Err e) h = tt
