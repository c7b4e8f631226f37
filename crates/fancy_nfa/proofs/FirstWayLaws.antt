-- From the end of a search to what the first way answers.
use Rattle.std.proofs.Common.{◌≡◌, ◌<◌, ◌≤◌, ◌+◌, ◌&&◌, [], ◌∷◌, ◌||◌, slice_get, true, nat_le, ℕ, zero, suc, Bool, false, List, length, map, take, Option, Some, None, Result, Ok, Err, IfOk, IsTrue, option_map, refl, sym, arith, ap, ◌∙◌, subst}
use Rattle.std.proofs.lemmas.Bool.Decides.{nat_tests}
use Rattle.std.proofs.lemmas.List.{take_all}
use denote.Bor.{Bor}
use Rattle.std.specs.declared.alloc.AllocError.{AllocError}
use Rattle.fancy_expr.specs.declared.error.Error.{Error}
use Rattle.fancy_meaning.specs.Tree.{Tree}
use Rattle.fancy_meaning.specs.Places.{is_place}
use Rattle.fancy_meaning.specs.Options.{Analysis}
use Rattle.fancy_meaning.specs.Premises.{IsText}
use Rattle.fancy_meaning.specs.Ways.{Setting}
use Rattle.fancy_nfa_laws.specs.NfaStates.{NfaState}
use Rattle.fancy_nfa_laws.specs.NfaCode.{states_of}
use Rattle.fancy_nfa_laws.specs.NfaSearch as plain
use Rattle.fancy_nfa_laws.specs.NfaSearch.{Pair, Search, Next, TakesUp, TakesBack, Ends, after_steps, next}
use Rattle.fancy_nfa_laws.specs.FirstWays.{AreMemoized, FindsFirst, no_pairs, of_search, search_in, searched, seen_of, spans_of}
use Rattle.fancy_nfa_laws.proofs.PlainSearch.{plain_search_finds}
use Rattle.fancy_nfa.specs.declared.first_way.FirstWay.{FirstWay}
use Rattle.fancy_nfa.specs.declared.first_way.Way.{Way}
use Rattle.fancy_nfa.specs.declared.nfa.Nfa.{Nfa}
use Rattle.fancy_nfa.specs.declared.nfa_state.NfaState as code
use Rattle.fancy_backtrack.specs.PairKeys.{key_of}
use Rattle.fancy_backtrack.specs.FailedPairs.{has_pair}
use Rattle.fancy_backtrack.specs.declared.trail.Entry.{Entry}
use Rattle.fancy_backtrack.specs.declared.trail.NfaConfig.{NfaConfig}
use Rattle.fancy_backtrack.specs.declared.memo.Memo.{Memo}
use Rattle.fancy_nfa.specs.declared.search.Searcher.{Searcher}
use Rattle.fancy_nfa.specs.Nfas.{IsNfaOf}
use Rattle.fancy_backtrack.specs.Paths.{closed_after}
use Rattle.fancy_backtrack.specs.BacktrackStack.{choices_of}
use Rattle.fancy_backtrack.specs.Memos.{AreKept, HaveFailed, IsHere, IsSearch, Continuation, saturated}
use Rattle.fancy_nfa.specs.Searches.{EndsAs, continuation_of}
use Rattle.fancy_nfa.specs.FirstSets.{has_character, is_begun_by, may_begin}
use Rattle.fancy_nfa.specs.Views.{state_of}
use Rattle.fancy_nfa.specs.Ways.{CountsVisits, HasNoWayAt, IsFirstWay, IsMemoOf, IsSeenAs, listed}

-- ---- a search has one end

abbrev pub way_at : Next → Option plain.NfaConfig
way_at (TakesUp s found) = None
way_at (TakesBack found) = None
way_at (Ends way found) = way

module _ (text : List ℕ) (unicode : Bool) (states : List NfaState) where
  pub end_stays : (k : ℕ) (way : Option plain.NfaConfig) (found : Search) →
      after_steps text unicode states k (Ends way found) ≡ Ends way found
  end_stays zero way found = refl
  end_stays (suc k) way found = end_stays k way found

  pub one_end : (k l : ℕ) (n : Next) (way other : Option plain.NfaConfig) (found with_other : Search) →
      after_steps text unicode states k n ≡ Ends way found →
      after_steps text unicode states l n ≡ Ends other with_other → Ends way found ≡ Ends other with_other
  one_end zero l n way other found with_other e h =
      sym (end_stays l way found) ∙ ap (after_steps text unicode states l) (sym e) ∙ h
  one_end (suc k) zero n way other found with_other e h =
      sym e ∙ ap (after_steps text unicode states (suc k)) h ∙ end_stays (suc k) other with_other
  one_end (suc k) (suc l) n way other found with_other e h =
      one_end k l (next text unicode states n) way other found with_other e h

-- ---- before the first state

module _ (continuation : Continuation) (m : Memo) (failed : Pair → Bool) (place : ℕ) (path : m.trail.entries.items ≡ [])
    (frames : choices_of m.frames ≡ []) (visits : m.visits ≡ 0) (have : HaveFailed m failed) where
  pub search_at_start : IsSearch continuation m (plain.first_search failed)
  search_at_start = record {
    frames = subst (λ backtrack_stack. AreKept continuation m.trail.entries.items (length m.trail.entries.items) backtrack_stack [])
        (sym frames) refl;
    failed = have;
    visits = omega (arith, visits);
  }

  pub here_at_start : IsHere m (record { at = 0; place = place; counters = 0; opened = 0 }) (plain.first_config place)
  here_at_start = record {
    at = refl;
    place = refl;
    counters_link = omega arith;
    opened_link = omega arith;
    counters = refl;
    opened = refl;
    spans = ap (λ entries. closed_after [] (take (length entries) entries)) path;
  }

-- ---- what is seen

pub seen_at_end : (w : Way) (entries : List Entry) (t : plain.NfaConfig) → w.end ≡ t.place →
    closed_after [] entries ≡ t.spans → ((g : ℕ) → listed w.spans.items g ≡ spans_of (closed_after [] entries) g) →
    IsSeenAs (Some w) (Some (seen_of t))
seen_at_end w entries t place spans same = (place, (λ g. same g ∙ ap (λ closed. spans_of closed g) spans))

module _ (text : List ℕ) (f : Nfa) (place : ℕ) (failed : Pair → Bool) (is_text : IsText text)
    (at : IsTrue (is_place text place))
    (memoized : AreMemoized text f.unicode (map state_of f.states.items) failed) where
  abbrev run : ℕ → Next
  run steps = searched text f.unicode (map state_of f.states.items) failed place steps

  pub memo_after : (m : Memo) (steps : ℕ) → HaveFailed m (search_in (run steps)).failed → IsMemoOf text f m
  memo_after m steps h = ((search_in (run steps)).failed, (h, of_search place steps at memoized))

  module _ (a : Analysis) (es : List Tree) (h : IsNfaOf a es f.unicode f) (pos : ℕ) (continued : Bool) where
    abbrev q : Setting
    q = record { text = text; pos = pos; continued = continued; unicode = f.unicode }

    pub finds : FindsFirst q a es failed place
    finds = plain_search_finds q a es failed place is_text at h.easy
        (subst (λ states. AreMemoized text f.unicode states failed) h.states memoized)

    pub same_end : (steps : ℕ) (way : Option plain.NfaConfig) (found : Search) → run steps ≡ Ends way found →
        Ends way found ≡ Ends finds.way finds.found
    same_end steps way found e =
        one_end text f.unicode (states_of a.tree es) steps finds.steps
        (TakesUp (plain.first_config place) (plain.first_search failed)) way finds.way found finds.found
        (subst (λ states. searched text f.unicode states failed place steps ≡ Ends way found) h.states e) finds.ends

  -- the end of the search is the first way
  pub first_at_end : (answer : FirstWay) (steps : ℕ) (way : Option plain.NfaConfig) (found : Search) →
      run steps ≡ Ends way found → IsSeenAs answer.way (option_map seen_of way) → answer.visits ≤ found.visits →
      IsFirstWay text f place answer
  first_at_end answer steps way found e same fewer = λ a es h. (
    (λ pos continued.
        subst (λ way. IsSeenAs answer.way way)
        (ap (λ n. option_map seen_of (way_at n)) (same_end a es h pos continued steps way found e)
        ∙ (finds a es h pos continued).first) same),
    omega (arith, fewer, ap (λ n. (search_in n).visits) (same_end a es h 0 false steps way found e), (finds a es h 0 false).bounded),
  )

-- ---- how a search ended

-- the configuration of the code is at the end of the way, or both are none
abbrev pub AtEnd : Memo → Option NfaConfig → Option plain.NfaConfig → Type 0
AtEnd m None None = Unit {0}
AtEnd m None (Some t) = ⊥
AtEnd m (Some s) None = ⊥
AtEnd m (Some s) (Some t) = IsHere m s t

pub record Ended (text : List ℕ) (unicode : Bool) (states : List NfaState) (failed : Pair → Bool) (place : ℕ)
    (there : Option NfaConfig) (m : Memo) : Type 0 where
  pub steps : ℕ
  pub way : Option plain.NfaConfig
  pub found : Search
  pub ends : searched text unicode states failed place steps ≡ Ends way found
  pub have : HaveFailed m found.failed
  pub visits : m.visits ≡ saturated found.visits
  pub at_end : AtEnd m there way

pub ended : (searcher : Searcher) (failed : Pair → Bool) (place : ℕ) (there : Option NfaConfig) (m : Memo) →
    EndsAs searcher (TakesUp (plain.first_config place) (plain.first_search failed)) (Ok there) m →
    Ended (searcher.text).now searcher.unicode (map state_of (searcher.states).now) failed place there m
ended searcher failed place None m (steps, (f, (is, h))) =
    record { steps = steps; way = None; found = f; ends = is; have = h.failed; visits = h.visits; at_end = tt }
ended searcher failed place (Some s) m (steps, (f, (t, (is, h, here)))) =
    record { steps = steps; way = Some t; found = f; ends = is; have = h.failed; visits = h.visits; at_end = here }

-- ---- what is answered at the end

module _ (text : List ℕ) (f : Nfa) (place : ℕ) (failed : Pair → Bool) (is_text : IsText text)
    (at : IsTrue (is_place text place))
    (known : AreMemoized text f.unicode (map state_of f.states.items) failed) (answer : FirstWay) (m : Memo) (visits : answer.visits ≡ m.visits) where
  pub first_found : (there : NfaConfig) (e : Ended text f.unicode (map state_of f.states.items) failed place (Some there) m) (w : Way) →
      answer.way ≡ Some w → w.end ≡ there.place →
      ((g : ℕ) → listed w.spans.items g ≡ spans_of (closed_after [] m.trail.entries.items) g) →
      IsFirstWay text f place answer
  first_found there e w is end spans =
      first_at_end text f place failed is_text at known answer e.steps e.way e.found e.ends
      (subst (λ o. IsSeenAs o (option_map seen_of e.way)) (sym is) (go e.way e.at_end))
      (let v = e.visits in omega (arith, v, visits))
    where
      go : (way : Option plain.NfaConfig) → AtEnd m (Some there) way → IsSeenAs (Some w) (option_map seen_of way)
      go None h = absurd h
      go (Some t) h =
          seen_at_end w m.trail.entries.items t (end ∙ h.place)
          (ap (closed_after []) (sym (take_all (length m.trail.entries.items) m.trail.entries.items (omega arith))) ∙ h.spans) spans

  pub first_none : (e : Ended text f.unicode (map state_of f.states.items) failed place None m) →
      answer.way ≡ None → IsFirstWay text f place answer
  first_none e is =
      first_at_end text f place failed is_text at known answer e.steps e.way e.found e.ends
      (subst (λ o. IsSeenAs o (option_map seen_of e.way)) (sym is) (go e.way e.at_end))
      (let v = e.visits in omega (arith, v, visits))
    where
      go : (way : Option plain.NfaConfig) → AtEnd m None way → IsSeenAs None (option_map seen_of way)
      go None h = tt
      go (Some t) h = absurd h

-- ---- a search by an NFA, from what a memo has memoized

module _ (states : Bor (List code.NfaState)) (text : Bor (List ℕ)) (nfa : Nfa) (place : ℕ) (old m : Memo)
    (same : states.now ≡ nfa.states.items) (is_text : IsText text.now) (at : IsTrue (is_place text.now place))
    (memo : IsMemoOf text.now nfa old) (failed : m.failed ≡ old.failed) (path : m.trail.entries.items ≡ [])
    (frames : choices_of m.frames ≡ []) (visits : m.visits ≡ 0) where
  abbrev searcher : Searcher
  searcher = record { states = states; unicode = nfa.unicode; text = text }

  -- the search answered this, from whatever the code stands for at its start
  abbrev Finds : Result (Option NfaConfig) AllocError → Memo → Type 0
  Finds r n =
      (s : plain.NfaConfig) (f : Search) → IsSearch (continuation_of searcher) m f →
      IsHere m (record { at = 0; place = place; counters = 0; opened = 0 }) s → EndsAs searcher (TakesUp s f) r n

  ends : (r : Result (Option NfaConfig) AllocError) (n : Memo) → Finds r n →
      EndsAs searcher (TakesUp (plain.first_config place) (plain.first_search memo.0)) r n
  ends r n h =
      let have : HaveFailed m memo.0 = λ p. ap (λ x. has_pair x (key_of p)) failed ∙ memo.1.0 p in
      h (plain.first_config place) (plain.first_search memo.0) (search_at_start (continuation_of searcher) m memo.0 place path frames visits have)
      (here_at_start (continuation_of searcher) m memo.0 place path frames visits have)

  pub end_refused : (e : AllocError) (n : Memo) → Finds (Err e) n → IsMemoOf text.now nfa n
  end_refused e n h =
      let x = ends (Err e) n h in
      memo_after text.now nfa place memo.0 is_text at memo.1.1 n x.0
      (subst (λ ps. HaveFailed n (search_in (searched text.now nfa.unicode ps memo.0 place x.0)).failed) (ap (map state_of) same) x.1)

  pub end_found : (there : Option NfaConfig) (n : Memo) → Finds (Ok there) n →
      Ended text.now nfa.unicode (map state_of nfa.states.items) memo.0 place there n
  end_found there n h =
      subst (λ ps. Ended text.now nfa.unicode ps memo.0 place there n) (ap (map state_of) same)
      (ended searcher memo.0 place there n (ends (Ok there) n h))

  pub memo_found : (there : Option NfaConfig) (n : Memo) → Finds (Ok there) n → IsMemoOf text.now nfa n
  memo_found there n h =
      let e = end_found there n h in
      memo_after text.now nfa place memo.0 is_text at memo.1.1 n e.steps
      (subst (λ x. HaveFailed n (search_in x).failed) (sym e.ends) e.have)

  -- and so it is where the memo knows of these pairs
  pub counted : (there : Option NfaConfig) (n : Memo) → Finds (Ok there) n → (known : Pair → Bool) → HaveFailed old known →
      Ended text.now nfa.unicode (map state_of nfa.states.items) known place there n
  counted there n h known knows =
      let have : HaveFailed m known = λ p. ap (λ x. has_pair x (key_of p)) failed ∙ knows p in
      subst (λ ps. Ended text.now nfa.unicode ps known place there n) (ap (map state_of) same)
      (ended searcher known place there n
      (h (plain.first_config place) (plain.first_search known) (search_at_start (continuation_of searcher) m known place path frames visits have)
      (here_at_start (continuation_of searcher) m known place path frames visits have)))

pub counted_by : (text : List ℕ) (f : Nfa) (place : ℕ) (memo : Memo) (known : Pair → Bool) → HaveFailed memo known →
    (r : Result FirstWay Error) →
    IfOk r (λ answer. (failed : Pair → Bool) → HaveFailed memo failed → CountsVisits text f failed place answer) →
    IfOk r (CountsVisits text f known place)
counted_by text f place memo known knows (Ok answer) h = h known knows
counted_by text f place memo known knows (Err e) h = tt

-- ---- where no way can begin

-- where no search finds a way, the nodes have none
pub no_way_found : (text : List ℕ) (f : Nfa) (place : ℕ) → IsText text → IsTrue (is_place text place) →
    ((failed : Pair → Bool) (steps : ℕ) (way : Option plain.NfaConfig) (found : Search) →
    searched text f.unicode (map state_of f.states.items) failed place steps ≡ Ends way found → way ≡ None) →
    HasNoWayAt text f place
no_way_found text f place is_text at finds_none = λ a es h pos continued.
    let q : Setting = record { text = text; pos = pos; continued = continued; unicode = f.unicode } in
    let finds : FindsFirst q a es (λ p. false) place = plain_search_finds q a es (λ p. false) place is_text at h.easy no_pairs in
    let ends = subst (λ states. searched text f.unicode states (λ p. false) place finds.steps ≡ Ends finds.way finds.found)
    (sym h.states) finds.ends in
    sym finds.first ∙ ap (option_map seen_of) (finds_none (λ p. false) finds.steps finds.way finds.found ends)

-- where the first character is none that a way can begin with
pub no_way_at : (text : List ℕ) (f : Nfa) (place : ℕ) → IsText text → IsTrue (is_place text place) →
    may_begin f.first_sets.items text place ≡ false → HasNoWayAt text f place
no_way_at text f place is_text at out = no_way_found text f place is_text at (f.begin text place out)

pub excluded_byte : (levels : List (List Bool)) (set : List Bool) (byte : ℕ) → slice_get levels 0 ≡ Some set →
    has_character set byte ≡ false → (text : List ℕ) (place : ℕ) → slice_get text place ≡ Some byte →
    may_begin levels text place ≡ false
excluded_byte [] set byte is out text place here = cc
excluded_byte (level ∷ levels) set byte is out text place here =
    let rest : Bool = may_begin levels text (place + 1) in
    let same : level ≡ set = cc in
    ap (is_begun_by level rest) here ∙ ap (λ l. has_character l byte && (nat_le 128 byte || rest)) same
    ∙ ap (λ b. b && (nat_le 128 byte || rest)) out
