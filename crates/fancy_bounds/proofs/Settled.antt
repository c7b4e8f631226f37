-- An attempt of at most one plain instruction ends within five, in the same way whatever branches are below it.
use Rattle.std.proofs.Common.{◌≡◌, ◌⊎◌, ⊎_elim, ℕ, suc, ◌+◌, ◌≤◌, Bool, true, false, ◌&&◌, ◌==◌, not, if◌then◌else◌, List, [], ◌∷◌, length, Option, Some, None, refl, ap, ◌∙◌, subst, arith}
use Rattle.std.specs.Prelude.{slice_get}
use Rattle.fancy_meaning.specs.Options.{RunOptions}
use Rattle.fancy_meaning.specs.Instr.{Instr, Save, End, RejectEmptyMatchAtEOFFollowingNewline}
use Rattle.fancy_meaning.specs.MatchState.{put}
use Rattle.fancy_meaning.specs.Config.{Slots, Branch, Config, Match, Next, Goes, Ends}
use Rattle.fancy_meaning.specs.Machine.{Task, fail, fail_to, goes_if, is_rejected, is_longest, numbers_of, step, step_at, exec, then_on}
use Rattle.fancy_meaning.specs.Enumerates.{HasAt}
use Rattle.fancy_composed.proofs.Continuations.{Tally, config}
use Rattle.fancy_composed.proofs.Attempts.{EndsAt}

-- what may be otherwise in a run of the same program on the same text
pub record Other : Type 0 where
  pub pos : ℕ
  pub anchored : Bool
  pub backtracks : ℕ
  pub steps : ℕ

abbrev pub other_options : RunOptions → Other → RunOptions
other_options o x =
    record o { pos = x.pos; anchored = x.anchored; backtrack_limit = x.backtracks; step_limit = x.steps }

abbrev pub other_task : Task → Other → Task
other_task t x = record t { options = other_options t.options x }

-- how an attempt ends: with a match, with a match that is held, or with none
pub data Ended : Type 0 where
  matched held : List ℕ → Ended
  failed : Ended

abbrev pub tally : ℕ → Option (List ℕ) → Tally
tally count longest = record { backtracks = count; longest = longest }

abbrev pub fallen : List Branch → ℕ → ℕ → Option (List ℕ) → Config
fallen bs start count longest = config 0 0 (λ s. 0) [] bs start (tally count longest)

abbrev pub ends_in : Task → List Branch → ℕ → ℕ → Ended → Next
ends_in t bs start count (matched numbers) = Ends (Match numbers)
ends_in t bs start count (held numbers) = fail_to t bs (fallen bs start count (Some numbers))
ends_in t bs start count failed = fail_to t bs (fallen bs start count None)

-- one is held only where the longest is asked for
abbrev pub IsAllowed : Bool → Ended → Type 0
IsAllowed longest (matched numbers) = Unit {0}
IsAllowed longest (held numbers) = longest ≡ true
IsAllowed longest failed = Unit {0}

module _ (t : Task) (start : ℕ) where
  -- at a place of the attempt
  abbrev pub at : ℕ → ℕ → Slots → List Branch → ℕ → Config
  at pc ix slots bs count = config pc ix slots [] bs start (tally count None)

  pub record Settles (most pc ix : ℕ) (slots : Slots) : Type 0 where
    pub ended : Ended
    pub allowed : IsAllowed t.leftmost_longest ended
    pub steps : ℕ
    pub few : steps ≤ most
    pub by : (x : Other) (bs : List Branch) (count n : ℕ) →
        exec (other_task t x) (steps + n) (at pc ix slots bs count)
        ≡ then_on (other_task t x) (exec (other_task t x) n) (ends_in (other_task t x) bs start count ended)

  pub settles_more : {most more pc ix : ℕ} {slots : Slots} → most ≤ more → Settles most pc ix slots → Settles more pc ix slots
  settles_more le s = let few = s.few in
      record { ended = s.ended; allowed = s.allowed; steps = s.steps; few = omega (arith, le, few); by = s.by }

  -- a failure does not go by where it happens
  same_failure : (u : Task) (bs : List Branch) (pc ix : ℕ) (slots : Slots) (count : ℕ) (longest : Option (List ℕ)) →
      fail_to u bs (config pc ix slots [] bs start (tally count longest)) ≡ fail_to u bs (fallen bs start count longest)
  same_failure u [] pc ix slots count longest = refl
  same_failure u (b ∷ bs) pc ix slots count longest = refl

  -- one instruction, and then the rest
  stepped : {most pc ix pc' ix' : ℕ} {slots slots' : Slots} (i : Instr) → slice_get (t.program).body pc ≡ Some i →
      ((x : Other) (bs : List Branch) (count : ℕ) →
      step (other_task t x) i (at pc ix slots bs count) ≡ Goes (at pc' ix' slots' bs count)) →
      Settles most pc' ix' slots' → Settles (suc most) pc ix slots
  stepped {most} {pc} {ix} {pc'} {ix'} {slots} {slots'} i stands goes s = let few = s.few in record {
    ended = s.ended;
    allowed = s.allowed;
    steps = suc s.steps;
    few = omega (arith, few);
    by = λ x bs count n.
        let u = other_task t x in
        let k : ℕ = s.steps + n in
        let one_more : suc s.steps + n ≡ suc k = omega arith in
        ap (λ m. exec u m (at pc ix slots bs count)) one_more
        ∙ ap (λ o. then_on u (exec u k) (step_at u o (at pc ix slots bs count))) stands
        ∙ ap (then_on u (exec u k)) (goes x bs count)
        ∙ s.by x bs count n;
  }

  -- one instruction that ends it
  stopped : {pc ix : ℕ} {slots : Slots} (i : Instr) (e : Ended) → IsAllowed t.leftmost_longest e →
      slice_get (t.program).body pc ≡ Some i →
      ((x : Other) (bs : List Branch) (count : ℕ) →
      step (other_task t x) i (at pc ix slots bs count) ≡ ends_in (other_task t x) bs start count e) →
      Settles 1 pc ix slots
  stopped {pc} {ix} {slots} i e ok stands ends = record {
    ended = e;
    allowed = ok;
    steps = 1;
    few = omega arith;
    by = λ x bs count n.
        let u = other_task t x in
        let one : 1 + n ≡ suc n = omega arith in
        ap (λ m. exec u m (at pc ix slots bs count)) one
        ∙ ap (λ o. then_on u (exec u n) (step_at u o (at pc ix slots bs count))) stands
        ∙ ap (then_on u (exec u n)) (ends x bs count);
  }

  -- ---- the end

  module _ (pc ix : ℕ) (slots : Slots) where
    abbrev numbers : List ℕ
    numbers = numbers_of t (at pc ix slots [] 0)

    -- what the end does, by its three tests
    abbrev verdict : Bool → Bool → Bool → Other → List Branch → ℕ → Next
    verdict v u w x bs count =
        if v then fail (other_task t x) (at pc ix slots bs count)
        else (if u
        then (if w then Ends (Match numbers)
        else fail (other_task t x) (config pc ix slots [] bs start (tally count (Some numbers))))
        else Ends (Match numbers))

    abbrev is_top : Bool
    is_top = is_longest t (at pc ix slots [] 0)

    at_end : slice_get (t.program).body pc ≡ Some End → Settles 1 pc ix slots
    at_end stands = by_test (t.not_empty && ix == start) refl t.leftmost_longest refl is_top refl
      where
        by_test : (v : Bool) → (t.not_empty && ix == start) ≡ v → (u : Bool) → t.leftmost_longest ≡ u →
            (w : Bool) → is_top ≡ w → Settles 1 pc ix slots
        by_test true e u f w g =
            stopped End failed tt stands
            (λ x bs count. ap (λ v. verdict v t.leftmost_longest is_top x bs count) e
            ∙ same_failure (other_task t x) bs pc ix slots count None)
        by_test false e true f true g =
            stopped End (matched numbers) tt stands
            (λ x bs count. ap (λ v. verdict v t.leftmost_longest is_top x bs count) e
            ∙ ap (λ u. verdict false u is_top x bs count) f ∙ ap (λ w. verdict false true w x bs count) g)
        by_test false e true f false g =
            stopped End (held numbers) f stands
            (λ x bs count. ap (λ v. verdict v t.leftmost_longest is_top x bs count) e
            ∙ ap (λ u. verdict false u is_top x bs count) f ∙ ap (λ w. verdict false true w x bs count) g
            ∙ same_failure (other_task t x) bs pc ix slots count (Some numbers))
        by_test false e false f w g =
            stopped End (matched numbers) tt stands
            (λ x bs count. ap (λ v. verdict v t.leftmost_longest is_top x bs count) e
            ∙ ap (λ u. verdict false u is_top x bs count) f)

  at_reject : (pc ix : ℕ) (slots : Slots) → slice_get (t.program).body pc ≡ Some RejectEmptyMatchAtEOFFollowingNewline →
      Settles 1 (pc + 1) ix slots → Settles 2 pc ix slots
  at_reject pc ix slots stands next = by_test (is_rejected t (at pc ix slots [] 0)) refl
    where
      by_test : (v : Bool) → is_rejected t (at pc ix slots [] 0) ≡ v → Settles 2 pc ix slots
      by_test true e =
          settles_more (omega arith)
          (stopped RejectEmptyMatchAtEOFFollowingNewline failed tt stands
          (λ x bs count. ap (λ v. goes_if (other_task t x) (not v) (at pc ix slots bs count)) e
          ∙ same_failure (other_task t x) bs pc ix slots count None))
      by_test false e =
          stepped RejectEmptyMatchAtEOFFollowingNewline stands
          (λ x bs count. ap (λ v. goes_if (other_task t x) (not v) (at pc ix slots bs count)) e) next

  at_ends : (v : Bool) (pc ix : ℕ) (slots : Slots) → EndsAt (t.program).body v pc → Settles 2 pc ix slots
  at_ends true pc ix slots stands = at_reject pc ix slots stands.0 (at_end (pc + 1) ix slots stands.1)
  at_ends false pc ix slots stands = settles_more (omega arith) (at_end pc ix slots stands)

  at_save : (most pc ix slot : ℕ) (slots : Slots) → slice_get (t.program).body pc ≡ Some (Save slot) →
      Settles most (pc + 1) ix (put slot ix slots) → Settles (suc most) pc ix slots
  at_save most pc ix slot slots stands next = stepped (Save slot) stands (λ x bs count. refl) next

  -- ---- an instruction that goes on or fails, in the same way whatever branches are below

  abbrev pub GoesOnOrFails : ℕ → ℕ → Slots → (Other → List Branch → ℕ → Next) → Type 0
  GoesOnOrFails pc ix slots next =
      ((ix' : ℕ) × (slots' : Slots)
      × ((x : Other) (bs : List Branch) (count : ℕ) → next x bs count ≡ Goes (at (pc + 1) ix' slots' bs count)))
      ⊎ ((x : Other) (bs : List Branch) (count : ℕ) → next x bs count ≡ fail (other_task t x) (at pc ix slots bs count))

  abbrev pub IsUniform : Instr → Type 0
  IsUniform i = (pc ix : ℕ) (slots : Slots) →
      GoesOnOrFails pc ix slots (λ x bs count. step (other_task t x) i (at pc ix slots bs count))

  -- no instruction, or one that is uniform
  pub data AtMostOne : List Instr → Type 0 where
    no_instr : AtMostOne []
    one_instr : (i : Instr) → IsUniform i → AtMostOne (i ∷ [])

  at_plain : (most pc ix : ℕ) (slots : Slots) {is : List Instr} → 1 ≤ most → AtMostOne is → HasAt (t.program).body pc is →
      ((ix' : ℕ) (slots' : Slots) → Settles most (pc + length is) ix' slots') → Settles (suc most) pc ix slots
  at_plain most pc ix slots le no_instr has next =
      let same : pc + 0 ≡ pc = omega arith in
      settles_more (omega arith) (subst (λ p. Settles most p ix slots) same (next ix slots))
  at_plain most pc ix slots le (one_instr i uniform) has next = ⊎_elim
      {C = Settles (suc most) pc ix slots}
      (λ goes. stepped i has.0 goes.2 (next goes.0 goes.1))
      (λ fails. settles_more (omega (arith, le))
      (stopped i failed tt has.0 (λ x bs count. fails x bs count ∙ same_failure (other_task t x) bs pc ix slots count None)))
      (uniform pc ix slots)

  -- a whole attempt
  pub attempt_settles : (a : ℕ) (v : Bool) (slots : Slots) {is : List Instr} → AtMostOne is →
      slice_get (t.program).body a ≡ Some (Save 0) → HasAt (t.program).body (a + 1) is →
      slice_get (t.program).body (a + 1 + length is) ≡ Some (Save 1) → EndsAt (t.program).body v (a + 1 + length is + 1) →
      Settles 5 a start slots
  attempt_settles a v slots {is} plain first has last ends =
      at_save 4 a start 0 slots first
      (at_plain 3 (a + 1) start (put 0 start slots) (omega arith) plain has
      (λ ix' slots'. at_save 2 (a + 1 + length is) ix' 1 slots' last
      (at_ends v (a + 1 + length is + 1) ix' (put 1 ix' slots') ends)))
