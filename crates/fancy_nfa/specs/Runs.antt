-- A loop over one character, many iterations at once.
use Rattle.std.specs.Prelude.{◌≡◌, ◌≤◌, ◌<◌, ◌+◌, ℕ, Bool, true, false, List, Some, None, map, slice_get}
use Rattle.fancy_meaning.specs.Moves.{past_char}
use Rattle.fancy_nfa_laws.specs.NfaSearch as plain
use Rattle.fancy_nfa_laws.specs.NfaSearch.{Next, Pair, Search, TakesBack, TakesUp, is_counted, pair_of, passes}
use Rattle.fancy_backtrack.specs.declared.trail.NfaConfig.{NfaConfig}
use Rattle.fancy_nfa.specs.declared.nfa_state.NfaState.{NfaState}
use Rattle.fancy_nfa.specs.declared.nfa_state.CharTest.{CharTest}
use Rattle.fancy_nfa.specs.declared.nfa_state.NfaState.TheVariants as nfa_state
use Rattle.fancy_backtrack.specs.declared.memo.Memo.{Memo}
use Rattle.fancy_nfa.specs.declared.search.Searcher.{Searcher}
use Rattle.fancy_backtrack.specs.Memos.{HaveFailed, IsHere, IsLoopSplitOf, IsSearch}
use Rattle.fancy_nfa.specs.Searches.{after_steps_of, continuation_of}
use Rattle.fancy_nfa.specs.Views.{state_of, test_of}

-- the test at this state is the body of the loop with this head
abbrev pub IsBody : List NfaState → (head first : ℕ) → CharTest → Type 0
IsBody states head first test =
    (slice_get states first ≡ Some (nfa_state.Character test))
    × (slice_get states (first + 1) ≡ Some (nfa_state.Jump head))

-- the configuration is at the head of a loop whose body is this test, and whose way on comes before the way out
abbrev pub RunsOver : Searcher → Memo → NfaConfig → CharTest → Type 0
RunsOver t m here test =
    (s : plain.NfaConfig) → IsHere m here s →
    (first : ℕ) × ((out : plain.NfaConfig → plain.NfaConfig) × (IsLoopSplitOf (continuation_of t) first out s
    × (is_counted (slice_get (map state_of (t.states).now) here.at) ≡ true) × IsBody (t.states).now here.at first test))

-- a character of one byte stands here and passes, and the head may have a way
pub record CanPass (t : Searcher) (m : Memo) (test : CharTest) (here : NfaConfig) (i : ℕ) : Type 0 where
  pub passes : past_char (t.text).now (passes (t.text).now t.unicode (test_of test)) i ≡ Some (i + 1)
  pub free : (s : plain.NfaConfig) (failed : Pair → Bool) → IsHere m (record here { place = i }) s →
      HaveFailed m failed →
      failed (pair_of s) ≡ false

-- so it is in this configuration and at each of the next bytes, so many in all
abbrev pub IsRun : Searcher → Memo → CharTest → NfaConfig → ℕ → Type 0
IsRun t m test here n = (i : ℕ) → here.place ≤ i → i < here.place + n → CanPass t m test here i

-- a search that is to go on by `next` goes on from this configuration after some steps
abbrev pub GoesOn : Searcher → Next → Memo → NfaConfig → Type 0
GoesOn searcher next m here =
    (steps : ℕ) × ((f : Search) × ((t : plain.NfaConfig) × ((after_steps_of searcher steps next ≡ TakesUp t f)
    × IsSearch (continuation_of searcher) m f × IsHere m here t)))

-- ---- tests that fail

-- no character that passes stands at the place
abbrev pub Excludes : Searcher → CharTest → (place : ℕ) → Type 0
Excludes t test place = past_char (t.text).now (passes (t.text).now t.unicode (test_of test)) place ≡ None

-- a search that takes up this state at this place goes back after some steps, and nothing is memoized or kept
abbrev pub FailsFrom : Searcher → (at place : ℕ) → Type 0
FailsFrom t at place =
    (s : plain.NfaConfig) (f : Search) → s.at ≡ at → s.place ≡ place →
    (steps : ℕ) × ((n : ℕ) × (after_steps_of t steps (TakesUp s f) ≡ TakesBack (record f { visits = f.visits + n })))

-- ---- tests one by one

-- a character of one byte that passes stands at the place
abbrev pub Passes : Searcher → CharTest → (place : ℕ) → Type 0
Passes t test place = past_char (t.text).now (passes (t.text).now t.unicode (test_of test)) place ≡ Some (place + 1)
