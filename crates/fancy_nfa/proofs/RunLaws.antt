-- A loop over one character comes in one go to where its iterations come one by one.
use Rattle.std.proofs.Common.{◌≡◌, ◌≤◌, ◌<◌, ◌+◌, ◌-◌, ◌*◌, ℕ, zero, suc, Bool, true, false, List, [], ◌∷◌, Some, None, IsTrue, map, not, option_map, if◌then◌else◌, true≢false, Result, Ok, Err, IfOk, ⊎_elim, length, slice_get, slice_index_or, refl, sym, ap, ap₂, ◌∙◌, subst, arith}
use Rattle.std.proofs.lemmas.Bool.{cases_lt, cond-false}
use Rattle.std.proofs.lemmas.Option.{slice_get-map}
use Rattle.std.specs.declared.alloc.AllocError.{AllocError}
use Rattle.fancy_meaning.specs.Moves.{past_char}
use Rattle.fancy_nfa_laws.specs.NfaStates as states
use Rattle.fancy_nfa_laws.specs.NfaSearch as plain
use Rattle.fancy_nfa_laws.specs.NfaSearch.{Search, TakesUp, goes_to, pair_of, passes}
use Rattle.fancy_backtrack.specs.declared.trail.NfaConfig.{NfaConfig}
use Rattle.fancy_nfa.specs.declared.nfa_state.CharTest.{CharTest}
use Rattle.fancy_nfa.specs.declared.nfa_state.NfaState.{NfaState}
use Rattle.fancy_nfa.specs.declared.nfa_state.NfaState.TheVariants as nfa_state
use Rattle.fancy_backtrack.specs.declared.memo.Memo.{Memo}
use Rattle.fancy_nfa.specs.declared.search.Searcher.{Searcher}
use Rattle.fancy_nfa.specs.AsciiRuns.{AllPass}
use Rattle.fancy_nfa.specs.Runs.{CanPass, FailsFrom, GoesOn, IsBody, IsRun, Passes, Excludes, RunsOver}
use Rattle.fancy_backtrack.specs.Memos.{IsLoopSplitOf, onward, run_search, HaveFailed, IsHere, IsSearch, Continuation}
use Rattle.fancy_nfa.specs.Searches.{IsSearcher, after_steps_of, continuation_of, next_of}
use Rattle.fancy_nfa.specs.Views.{IsReadBy, state_of, test_of}
use Rattle.fancy_backtrack.proofs.KeptRunLaws.{onward_configs}
use Rattle.fancy_nfa.proofs.BackLaws.{one_more}
use Rattle.fancy_nfa.proofs.FirstSetLaws.{at_index, passes_alike, skip_ascii, past_end}
use Rattle.fancy_nfa.proofs.SearchLaws.{steps_by, next_there}

-- ---- the heads of loops

-- a loop that does not count
pub loop_split_of : (searcher : Searcher) (here : NfaConfig) (first second : ℕ) →
    slice_get (searcher.states).now here.at ≡ Some (nfa_state.LoopSplit first second) →
    (s : plain.NfaConfig) → here.at ≡ s.at → IsLoopSplitOf (continuation_of searcher) first (goes_to second) s
loop_split_of searcher here first second head s at n = steps_by searcher (nfa_state.LoopSplit first second) here (onward n s) at head

-- ---- the steps of an iteration

module _ (searcher : Searcher) (here : NfaConfig) (first : ℕ) (out : plain.NfaConfig → plain.NfaConfig) (test : CharTest)
    (body : slice_get (searcher.states).now first ≡ Some (nfa_state.Character test))
    (back : slice_get (searcher.states).now (first + 1) ≡ Some (nfa_state.Jump here.at))
    (s : plain.NfaConfig) (at : here.at ≡ s.at) (loop_splits : IsLoopSplitOf (continuation_of searcher) first out s)
    (counted : plain.is_counted (slice_get (map state_of (searcher.states).now) here.at) ≡ true) where
  abbrev taken : Search → plain.NfaConfig → Search
  taken g t = record g {
    frames = plain.Other (out t) ∷ plain.Fails t ∷ g.frames;
    visits = g.visits + 1;
  }

  counter_loop_moves : (n : ℕ) (g : Search) → g.failed (pair_of (onward n s)) ≡ false →
      next_of searcher (TakesUp (onward n s) g) ≡ TakesUp (goes_to first (onward n s)) (taken g (onward n s))
  counter_loop_moves n g free =
      let t = onward n s in
      let all = map state_of (searcher.states).now in
      ap (λ l. plain.next_by l (slice_get all s.at) t g) (loop_splits n) ∙ cond-false (g.failed (pair_of t)) _ _ free
      ∙ ap (λ c. TakesUp (goes_to first t) (plain.with_frames (plain.Other (out t) ∷ plain.Fails t ∷ [])
      (if c then record g { visits = g.visits + 1 } else g))) (ap (λ k. plain.is_counted (slice_get all k)) (sym at) ∙ counted)

  body_step : (t : plain.NfaConfig) (g : Search) →
      past_char (searcher.text).now (passes (searcher.text).now searcher.unicode (test_of test)) t.place ≡ Some (t.place + 1) →
      next_of searcher (TakesUp (goes_to first t) g)
      ≡ TakesUp (record t { at = first + 1; place = t.place + 1 }) (record g { visits = g.visits + 1 })
  body_step t g past =
      next_there searcher (nfa_state.Character test) (record here { at = first }) (goes_to first t) refl body g
      ∙ ap (λ o. plain.next_by (plain.goes_past (goes_to first t) o) (Some (states.Character (test_of test))) (goes_to first t) g) past

  back_step : (t : plain.NfaConfig) (g : Search) → t.at ≡ first + 1 →
      next_of searcher (TakesUp t g) ≡ TakesUp (goes_to here.at t) g
  back_step t g e = next_there searcher (nfa_state.Jump here.at) (record here { at = first + 1 }) t (sym e) back g

  -- where an iteration after n of them comes to
  behind : (n : ℕ) (f : Search) →
      TakesUp (goes_to here.at (record (onward n s) { at = first + 1; place = s.place + n + 1 }))
      (record (taken (run_search out n s f) (onward n s)) { visits = f.visits + 2 * n + 1 + 1 })
      ≡ TakesUp (onward (suc n) s) (run_search out (suc n) s f)
  behind n f =
      let place : s.place + n + 1 ≡ s.place + suc n = omega arith in
      let visits : f.visits + 2 * n + 1 + 1 ≡ f.visits + 2 * suc n = omega arith in
      ap₂ (λ p i. TakesUp (record s { at = p; place = i })
      (record (taken (run_search out n s f) (onward n s)) { visits = f.visits + 2 * n + 1 + 1 })) at place
      ∙ ap (λ v. TakesUp (onward (suc n) s) (record (taken (run_search out n s f) (onward n s)) { visits = v })) visits

  pub run_on : (n : ℕ) (f : Search) →
      ((k : ℕ) → k < n → past_char (searcher.text).now (passes (searcher.text).now searcher.unicode (test_of test)) (s.place + k) ≡ Some (s.place + k + 1)) →
      ((k : ℕ) → k < n → f.failed (pair_of (onward k s)) ≡ false) →
      (steps : ℕ) × (after_steps_of searcher steps (TakesUp s f) ≡ TakesUp (onward n s) (run_search out n s f))
  run_on zero f past free =
      let place : s.place ≡ s.place + 0 = omega arith in
      let visits : f.visits ≡ f.visits + 2 * 0 = omega arith in
      (0, ap₂ (λ i v. TakesUp (record s { place = i }) (record f { visits = v })) place visits)
  run_on (suc n) f past free =
      let on = run_on n f (λ k below. past k (omega (arith, below))) (λ k below. free k (omega (arith, below))) in
      let g = run_search out n s f in
      let one = one_more searcher on.0 (TakesUp s f) (TakesUp (onward n s) g) on.1 ∙ counter_loop_moves n g (free n (omega arith)) in
      let two = one_more searcher (suc on.0) (TakesUp s f) _ one ∙ body_step (onward n s) (taken g (onward n s)) (past n (omega arith)) in
      let three = one_more searcher (suc (suc on.0)) (TakesUp s f) _ two ∙ back_step _ _ refl in
      (suc (suc (suc on.0)), three ∙ behind n f)

-- ---- from a step to the next

-- a run that was found is passed
pub skip_run : (searcher : Searcher) (m new : Memo) (test : CharTest) (here : NfaConfig) (count : ℕ) (r : Result NfaConfig AllocError) →
    RunsOver searcher m here test → IsRun searcher m test here count →
    IfOk r (λ on. (continuation : Continuation) (f : Search) (s : plain.NfaConfig)
    (first : ℕ) (out : plain.NfaConfig → plain.NfaConfig) → IsSearch continuation m f →
    IsHere m here s → IsLoopSplitOf continuation first out s → IsSearch continuation new (run_search out count s f) × IsHere new on (onward count s)) →
    IfOk r (λ on. (s : plain.NfaConfig) (f : Search) → IsSearch (continuation_of searcher) m f → IsHere m here s → GoesOn searcher (TakesUp s f) new on)
skip_run searcher m new test here count (Err e) over run keeps = tt
skip_run searcher m new test here count (Ok on) over run keeps = λ s f h stands.
    let loop = over s stands in
    let first = loop.0 in
    let out = loop.1.0 in
    let loop_splits = loop.1.1.0 in
    let body = loop.1.1.2 in
    let kept = keeps (continuation_of searcher) f s first out h stands loop_splits in
    let place = stands.place in
    let steps = run_on searcher here first out test body.0 body.1 s stands.at loop_splits loop.1.1.1 count f
    (λ k below.
    subst (λ i. past_char (searcher.text).now (passes (searcher.text).now searcher.unicode (test_of test)) i ≡ Some (i + 1)) {x = here.place + k}
    (ap (λ i. i + k) place) (run (here.place + k) (omega arith) (omega (arith, below))).passes)
    (λ k below.
    (run (here.place + k) (omega arith) (omega (arith, below))).free (onward k s) f.failed
    (onward_configs m.trail.entries.items (length m.trail.entries.items) here s (here.place + k) k (ap (λ i. i + k) place) stands) h.failed)
    in
    (steps.0, (run_search out count s f, (onward count s, (steps.1, kept.0, kept.1))))

-- a run ends at the head where it began
pub at_head : (here : NfaConfig) (count : ℕ) (r : Result NfaConfig AllocError) → IfOk r (λ on. on ≡ record here { place = here.place + count }) →
    IfOk r (λ on. on.at ≡ here.at)
at_head here count (Err e) is = tt
at_head here count (Ok on) is = ap (λ (x : NfaConfig). x.at) is

counted_at : (searcher : Searcher) (at : ℕ) (p : NfaState) → slice_get (searcher.states).now at ≡ Some p → plain.is_counted (Some (state_of p)) ≡ true →
    plain.is_counted (slice_get (map state_of (searcher.states).now) at) ≡ true
counted_at searcher at p there counts =
    ap plain.is_counted (slice_get-map state_of (searcher.states).now at ∙ ap (option_map state_of) there) ∙ counts

pub loop_split_runs : (searcher : Searcher) (m : Memo) (here : NfaConfig) (test : CharTest) (first second : ℕ) →
    slice_get (searcher.states).now here.at ≡ Some (nfa_state.LoopSplit first second) → IsBody (searcher.states).now here.at first test →
    RunsOver searcher m here test
loop_split_runs searcher m here test first second head body = λ s stands.
    (first, (goes_to second, (loop_split_of searcher here first second head s stands.at, counted_at searcher here.at _ head refl, body)))

pub body_read : (searcher : Searcher) (head first : ℕ) (test : CharTest) → IsSearcher searcher → IsBody (searcher.states).now head first test →
    IsReadBy searcher.unicode test
body_read searcher head first test read body = read first (nfa_state.Character test) body.0

-- ---- where a run goes on

-- one more character may be passed
pub one_further : (searcher : Searcher) (m : Memo) (test : CharTest) (here : NfaConfig) (at : ℕ) → here.place ≤ at →
    ((i : ℕ) → here.place ≤ i → i < at → CanPass searcher m test here i) → CanPass searcher m test here at →
    (i : ℕ) → here.place ≤ i → i < at + 1 → CanPass searcher m test here i
one_further searcher m test here at on before this i from below =
    ⊎_elim (λ lt. before i from lt) (λ ge. subst (CanPass searcher m test here) {x = at} (omega (arith, ge, below)) this) (cases_lt i at)

-- a character of ASCII that passes
passes_at : (searcher : Searcher) (test : CharTest) (at : ℕ) → at < length (searcher.text).now → slice_index_or (searcher.text).now at 0 < 128 →
    passes [] searcher.unicode (test_of test) (slice_index_or (searcher.text).now at 0) ≡ true → Passes searcher test at
passes_at searcher test at within ascii takes =
    skip_ascii (searcher.text).now (passes (searcher.text).now searcher.unicode (test_of test)) at (slice_index_or (searcher.text).now at 0)
    (at_index (searcher.text).now at 0 within) ascii true
    (sym (passes_alike (searcher.text).now searcher.unicode (test_of test) (slice_index_or (searcher.text).now at 0)) ∙ takes)

pub passes_by : (bytes : List ℕ) (searcher : Searcher) (test : CharTest) (at : ℕ) → bytes ≡ (searcher.text).now → at < length bytes →
    slice_index_or bytes at 0 < 128 → passes [] searcher.unicode (test_of test) (slice_index_or bytes at 0) ≡ true → Passes searcher test at
passes_by bytes searcher test at e within ascii takes =
    passes_at searcher test at (subst (λ t. at < length t) e within) (subst (λ t. slice_index_or t at 0 < 128) e ascii)
    (subst (λ t. passes [] searcher.unicode (test_of test) (slice_index_or t at 0) ≡ true) e takes)

-- a character of ASCII that passes, where the head may have a way
may_pass : (searcher : Searcher) (m : Memo) (test : CharTest) (here : NfaConfig) (at : ℕ) → at < length (searcher.text).now →
    slice_index_or (searcher.text).now at 0 < 128 →
    passes [] searcher.unicode (test_of test) (slice_index_or (searcher.text).now at 0) ≡ true →
    ((s : plain.NfaConfig) (failed : plain.Pair → Bool) → IsHere m (record here { place = at }) s → HaveFailed m failed → failed (pair_of s) ≡ false) →
    CanPass searcher m test here at
may_pass searcher m test here at within ascii takes free = record { passes = passes_at searcher test at within ascii takes; free = free }

-- so it is by the bytes of the text
pub may_pass_by : (bytes : List ℕ) (searcher : Searcher) (m : Memo) (test : CharTest) (here : NfaConfig) (at : ℕ) → bytes ≡ (searcher.text).now →
    at < length bytes → slice_index_or bytes at 0 < 128 → passes [] searcher.unicode (test_of test) (slice_index_or bytes at 0) ≡ true →
    ((s : plain.NfaConfig) (failed : plain.Pair → Bool) → IsHere m (record here { place = at }) s → HaveFailed m failed → failed (pair_of s) ≡ false) →
    CanPass searcher m test here at
may_pass_by bytes searcher m test here at e within ascii takes =
    may_pass searcher m test here at (subst (λ t. at < length t) e within) (subst (λ t. slice_index_or t at 0 < 128) e ascii)
    (subst (λ t. passes [] searcher.unicode (test_of test) (slice_index_or t at 0) ≡ true) e takes)

-- characters of ASCII that pass, where no pair is known
pub blank_run : (bytes : List ℕ) (searcher : Searcher) (m : Memo) (test : CharTest) (here : NfaConfig) (to : ℕ) → bytes ≡ (searcher.text).now →
    AllPass (passes [] searcher.unicode (test_of test)) bytes here.place to → here.place ≤ to →
    ((failed : plain.Pair → Bool) → HaveFailed m failed → (p : plain.Pair) → failed p ≡ false) →
    IsRun searcher m test here (to - here.place)
blank_run bytes searcher m test here to e all ordered blank i from below =
    let h = all i from (omega (arith, ordered, below)) in
    may_pass_by bytes searcher m test here i e h.0 h.1 h.2 (λ s failed stands have. blank failed have (pair_of s))

-- ---- tests that fail

-- a test that no character passes
pub test_fails : (searcher : Searcher) (test : CharTest) (at place : ℕ) → slice_get (searcher.states).now at ≡ Some (nfa_state.Character test) →
    Excludes searcher test place → FailsFrom searcher at place
test_fails searcher test at place there none s f e p =
    let here : NfaConfig = record { at = at; place = place; counters = 0; opened = 0 } in (
      1,
      (
        1,
        next_there searcher (nfa_state.Character test) here s (sym e) there f
            ∙ ap (λ o. plain.next_by (plain.goes_past s o) (Some (states.Character (test_of test))) s f)
            (ap (past_char (searcher.text).now (passes (searcher.text).now searcher.unicode (test_of test))) p ∙ none),
      ),
    )

pub refused_at_end : (searcher : Searcher) (test : CharTest) (place : ℕ) → slice_get (searcher.text).now place ≡ None → Excludes searcher test place
refused_at_end searcher test place none = past_end (searcher.text).now (passes (searcher.text).now searcher.unicode (test_of test)) place none

pub refused_by_test : (searcher : Searcher) (test : CharTest) (place b : ℕ) → slice_get (searcher.text).now place ≡ Some b → b < 128 → (takes : Bool) →
    IsTrue (not takes) → takes ≡ passes [] searcher.unicode (test_of test) b → Excludes searcher test place
refused_by_test searcher test place b here small true excludes e = absurd (true≢false (sym excludes))
refused_by_test searcher test place b here small false excludes e =
    skip_ascii (searcher.text).now (passes (searcher.text).now searcher.unicode (test_of test)) place b here small false
    (sym (passes_alike (searcher.text).now searcher.unicode (test_of test) b) ∙ sym e)
