-- The plain search of a fragment: from state to state, what is tried later kept on a stack. A pair of a state and a
-- place that had no way is memoized where several ways lead there, and not taken up again.
use Rattle.std.specs.Prelude.{ℕ, zero, suc, ◌+◌, min, Bool, true, false, ◌&&◌, ◌||◌, not, List, [], ◌∷◌, ◌++◌, map, Option, Some, None, if◌then◌else◌, ◌==◌, nat_lt, slice_get}
use lib.Pointwise.{pointwise}
use Rattle.fancy_meaning.specs.Chars.{literal_takes, any_takes, class_takes}
use Rattle.fancy_meaning.specs.Assertions.{holds}
use Rattle.fancy_meaning.specs.Moves.{past_char}
use Rattle.fancy_meaning.specs.MatchState.{Span}
use Rattle.fancy_nfa_laws.specs.NfaStates.{CharTest, AnyChar, OneChar, InClass, Loop, NfaState, Match, Character, Holds, Open, Close, Split, BranchSplit, LoopSplit, Jump, Join, CounterBegin, CounterLoop}

-- An iteration of a loop that counts: how many were begun before it, and where it began if it is asked whether it
-- moves.
pub record LoopCounter : Type 0 where
  pub count : ℕ
  pub since : Option ℕ

-- a configuration: where the search stands
pub record NfaConfig : Type 0 where
  pub at : ℕ
  pub place : ℕ
  -- the iterations of the loops around that count, the innermost first
  pub counters : List LoopCounter
  -- where the groups around began, the innermost first
  pub opened : List ℕ
  -- the groups that were closed, the last one first
  pub spans : List (ℕ × Span)

-- What a search from here depends on: the state, the place, and of each loop around how many iterations were begun
-- before this one and whether this one is to move and has not moved yet.
pub record Pair : Type 0 where
  pub at : ℕ
  pub place : ℕ
  pub counters : List (ℕ × Bool)

-- what a state leads to
pub data StepResult : Type 0 where
  Found Lost : StepResult
  Goes : NfaConfig → StepResult
  -- the first, and if it has no way the others
  Tries : (is_memoized : Bool) → NfaConfig → List NfaConfig → StepResult

abbrev pub goes_to : ℕ → NfaConfig → NfaConfig
goes_to p s = record s { at = p }

abbrev pub forward : NfaConfig → NfaConfig
forward s = goes_to (s.at + 1) s

-- it began here, and is asked whether it moves
abbrev pub has_stayed : ℕ → Option ℕ → Bool
has_stayed place None = false
has_stayed place (Some since) = since == place

abbrev pub counter_key : ℕ → LoopCounter → ℕ × Bool
counter_key place t = (t.count, has_stayed place t.since)

abbrev pub pair_of : NfaConfig → Pair
pair_of s = record { at = s.at; place = s.place; counters = map (counter_key s.place) s.counters }

-- ---- loops that count

-- past `lo` a loop without a bound counts no more
abbrev pub next_count : ℕ → Option ℕ → ℕ → ℕ
next_count lo None count = min (count + 1) lo
next_count lo (Some hi) count = count + 1

abbrev pub is_last : Option ℕ → ℕ → Bool
is_last None count = false
is_last (Some hi) count = not (nat_lt count hi)

-- the iteration that begins here
abbrev pub next_counter : Loop → ℕ → LoopCounter → LoopCounter
next_counter loop place t = record {
  count = next_count loop.lo loop.hi t.count;
  since = if loop.asks_moved && not (nat_lt t.count loop.lo) then Some place else None;
}

-- no iteration may be begun
abbrev pub is_over : Loop → ℕ → LoopCounter → Bool
is_over loop place t = has_stayed place t.since || is_last loop.hi t.count

-- into the loop or out of it
abbrev pub choice_step : Bool → NfaConfig → NfaConfig → StepResult
choice_step true on off = Tries true on (off ∷ [])
choice_step false on off = Tries true off (on ∷ [])

abbrev pub counter_loop_step : Loop → ℕ → NfaConfig → List LoopCounter → StepResult
counter_loop_step loop after s [] = Lost
counter_loop_step loop after s (t ∷ counters) =
    let on = record (forward s) { counters = next_counter loop s.place t ∷ counters } in
    let off = record (goes_to after s) { counters = counters } in
    if is_over loop s.place t then Tries true off []
    else if nat_lt t.count loop.lo then Tries true on []
    else choice_step loop.greedy on off

-- ---- states

-- the end of a group that is not open sets no span
abbrev pub close_step : ℕ → NfaConfig → List ℕ → StepResult
close_step g s [] = Goes (forward s)
close_step g s (from ∷ opened) =
    Goes (record (forward s) { opened = opened; spans = (g, (from, s.place)) ∷ s.spans })

abbrev pub goes_past : NfaConfig → Option ℕ → StepResult
goes_past s None = Lost
goes_past s (Some i) = Goes (record (forward s) { place = i })

module _ (text : List ℕ) (unicode : Bool) where
  abbrev pub passes : CharTest → ℕ → Bool
  passes (AnyChar newline crlf) = any_takes newline crlf
  passes (OneChar c casei) = literal_takes unicode c casei
  passes (InClass inner casei) = class_takes unicode inner casei

  abbrev pub step_by : NfaState → NfaConfig → StepResult
  step_by Match s = Found
  step_by (Character test) s = goes_past s (past_char text (passes test) s.place)
  step_by (Holds a) s = if holds text s.place unicode a then Goes (forward s) else Lost
  step_by Open s = Goes (record (forward s) { opened = s.place ∷ s.opened })
  step_by (Close g) s = close_step g s s.opened
  step_by (Split first second) s = Tries false (goes_to first s) (goes_to second s ∷ [])
  step_by (BranchSplit first second) s = Tries false (goes_to first s) (goes_to second s ∷ [])
  step_by (LoopSplit first second) s = Tries true (goes_to first s) (goes_to second s ∷ [])
  step_by (Jump to) s = Goes (goes_to to s)
  step_by Join s = Tries true (forward s) []
  step_by CounterBegin s = Goes (record (forward s) { counters = record { count = 0; since = None } ∷ s.counters })
  step_by (CounterLoop loop after) s = counter_loop_step loop after s s.counters

  abbrev pub step_at : Option NfaState → NfaConfig → StepResult
  step_at None s = Lost
  step_at (Some p) s = step_by p s

-- ---- the search

-- what is tried when all before it has no way
pub data Frame : Type 0 where
  Other : NfaConfig → Frame
  -- all that the pair of this configuration leads to has no way
  Fails : NfaConfig → Frame

pub record Search : Type 0 where
  pub frames : List Frame
  -- the pairs that have no way
  pub failed : Pair → Bool
  -- how many states were taken up
  pub visits : ℕ

pub data Next : Type 0 where
  -- a state is taken up
  TakesUp : NfaConfig → Search → Next
  -- there was no way
  TakesBack : Search → Next
  -- the end, where it was found
  Ends : Option NfaConfig → Search → Next

-- a state before a node, or after an iteration
abbrev pub is_counted : Option NfaState → Bool
is_counted (Some (Close g)) = false
is_counted (Some (BranchSplit first second)) = false
is_counted (Some (Jump to)) = false
is_counted (Some Join) = false
is_counted p = true

abbrev pub visited : Option NfaState → Search → Search
visited p s = if is_counted p then record s { visits = s.visits + 1 } else s

abbrev pub with_frames : List Frame → Search → Search
with_frames more s = record s { frames = more ++ s.frames }

abbrev pub others : List NfaConfig → List Frame
others [] = []
others (s ∷ ss) = Other s ∷ others ss

abbrev pub same_counter : ℕ × Bool → ℕ × Bool → Bool
same_counter t u = t.0 == u.0 && (if t.1 then u.1 else not u.1)

abbrev pub same_pair : Pair → Pair → Bool
same_pair p q = p.at == q.at && p.place == q.place && pointwise same_counter p.counters q.counters

-- with this pair among those that have no way
abbrev pub with_failed : Pair → Search → Search
with_failed p s = record s { failed = λ q. same_pair p q || s.failed q }

-- a pair is taken up if it is not known to have no way
abbrev pub tries : Bool → (from : NfaConfig) → NfaConfig → List NfaConfig → Option NfaState → Search → Next
tries false from s ss p found = TakesUp s (with_frames (others ss) (visited p found))
tries true from s ss p found =
    if found.failed (pair_of from) then TakesBack found
    else TakesUp s (with_frames (others ss ++ (Fails from ∷ [])) (visited p found))

abbrev pub next_by : StepResult → Option NfaState → NfaConfig → Search → Next
next_by Found p s found = Ends (Some s) (visited p found)
next_by Lost p s found = TakesBack (visited p found)
next_by (Goes t) p s found = TakesUp t (visited p found)
next_by (Tries is_memoized t ts) p s found = tries is_memoized s t ts p found

-- back to what is tried later
abbrev pub back_to : List Frame → Search → Next
back_to [] found = Ends None found
back_to (Other s ∷ frames) found = TakesUp s (record found { frames = frames })
back_to (Fails s ∷ frames) found = TakesBack (with_failed (pair_of s) (record found { frames = frames }))

module _ (text : List ℕ) (unicode : Bool) (states : List NfaState) where
  abbrev pub step_result : NfaConfig → StepResult
  step_result s = step_at text unicode (slice_get states s.at) s

  abbrev pub next : Next → Next
  next (TakesUp s found) = next_by (step_result s) (slice_get states s.at) s found
  next (TakesBack found) = back_to found.frames found
  next (Ends s found) = Ends s found

  -- after so many steps
  abbrev pub after_steps : ℕ → Next → Next
  after_steps zero n = n
  after_steps (suc k) n = after_steps k (next n)

-- a search from a place, where these pairs are known to have no way
abbrev pub first_search : (Pair → Bool) → Search
first_search failed = record { frames = []; failed = failed; visits = 0 }

abbrev pub first_config : ℕ → NfaConfig
first_config place = record { at = 0; place = place; counters = []; opened = []; spans = [] }
