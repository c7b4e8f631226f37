-- What passes no limit: enough instructions are enough, enough backtracks are enough, and one branch at most is held.
use Rattle.std.proofs.Common.{◌≡◌, ◌≢◌, ℕ, zero, suc, ◌+◌, ◌≤◌, Bool, true, false, ◌&&◌, ◌==◌, not, nat_lt, if◌then◌else◌, List, [], ◌∷◌, length, Option, Some, None, refl, sym, ap, ◌∙◌, subst, arith, lt-ltb}
use Rattle.std.specs.Prelude.{slice_get}
use Rattle.fancy_meaning.specs.Instr.{Instr, Save, End, RejectEmptyMatchAtEOFFollowingNewline}
use Rattle.fancy_meaning.specs.Config.{Branch, Config, Outcome, outcome_of, longer, Match, NoMatch, BacktrackLimitExceeded, StackOverflow, StepLimitExceeded, Next, Goes, Ends}
use Rattle.fancy_meaning.specs.Machine.{Task, fail, fail_to, goes_if, is_rejected, is_longest, numbers_of, step, step_at, exec, then_on, after_steps}
use Rattle.fancy_meaning.specs.Enumerates.{HasAt, outcome_after}
use Rattle.fancy_composed.proofs.Attempts.{EndsAt}
use Rattle.fancy_headline.proofs.Plain.{GoesOrFails, goes, fails, AtMostOne, no_instr, one_instr}

-- how many branches are held
abbrev held : Next → ℕ
held (Goes c) = length c.branches
held (Ends o) = 0

has_ended : (o : Outcome) (c : Config) → Ends o ≡ Goes c → ⊥
has_ended o c e = cc

module _ (t : Task) where
  -- Where so many backtracks were made, and so many starts are left: k instructions are enough, a backtrack for each start
  -- is enough, and at most one branch is ever held.
  pub record IsBounded (count starts k : ℕ) (next : Next) : Type 0 where
    pub steps : (n : ℕ) → k ≤ n → outcome_after t n next ≢ StepLimitExceeded
    pub backtracks : count + starts ≤ t.backtrack_limit → (n : ℕ) → outcome_after t n next ≢ BacktrackLimitExceeded
    pub room : (n : ℕ) → outcome_after t n next ≢ StackOverflow
    pub branches : (n : ℕ) (d : Config) → after_steps t n next ≡ Goes d → length d.branches ≤ 1

  pub bounded_more : {count starts k m : ℕ} {next : Next} → k ≤ m → IsBounded count starts k next → IsBounded count starts m next
  bounded_more le b = record {
    steps = λ n l. b.steps n (omega (arith, le, l));
    backtracks = b.backtracks;
    room = b.room;
    branches = b.branches;
  }

  stays_ended : (o : Outcome) (n : ℕ) → after_steps t n (Ends o) ≡ Ends o
  stays_ended o zero = refl
  stays_ended o (suc n) = stays_ended o n

  nothing_held : (o : Outcome) (n : ℕ) (d : Config) → after_steps t n (Ends o) ≡ Goes d → length d.branches ≤ 1
  nothing_held o n d e = absurd (has_ended o d (sym (stays_ended o n) ∙ e))

  pub no_match_bounded : (count starts k : ℕ) → IsBounded count starts k (Ends NoMatch)
  no_match_bounded count starts k =
      record { steps = λ n le e. cc; backtracks = λ le n e. cc; room = λ n e. cc; branches = nothing_held NoMatch }

  pub match_bounded : (count starts k : ℕ) (numbers : List ℕ) → IsBounded count starts k (Ends (Match numbers))
  match_bounded count starts k numbers =
      record { steps = λ n le e. cc; backtracks = λ le n e. cc; room = λ n e. cc; branches = nothing_held (Match numbers) }

  -- what is held is answered, or that there is none
  pub answer_bounded : (count starts k : ℕ) (longest : Option (List ℕ)) → IsBounded count starts k (Ends (outcome_of longest))
  answer_bounded count starts k None = no_match_bounded count starts k
  answer_bounded count starts k (Some numbers) = match_bounded count starts k numbers

  -- one instruction
  pub step_bounded : {count starts k : ℕ} (i : Instr) (c : Config) → slice_get (t.program).body c.pc ≡ Some i →
      length c.branches ≤ 1 → IsBounded count starts k (step t i c) → IsBounded count starts (suc k) (Goes c)
  step_bounded {count} {starts} {k} i c at few b = record {
    steps = steps;
    backtracks = backtracks;
    room = room;
    branches = branches;
  }
    where
      same : (n : ℕ) → exec t (suc n) c ≡ outcome_after t n (step t i c)
      same n = ap (λ o. then_on t (exec t n) (step_at t o c)) at

      steps : (n : ℕ) → suc k ≤ n → exec t n c ≢ StepLimitExceeded
      steps zero le e = absurd (omega (arith, le))
      steps (suc n) le e = b.steps n (omega (arith, le)) (sym (same n) ∙ e)

      backtracks : count + starts ≤ t.backtrack_limit → (n : ℕ) → exec t n c ≢ BacktrackLimitExceeded
      backtracks le zero e = cc
      backtracks le (suc n) e = b.backtracks le n (sym (same n) ∙ e)

      room : (n : ℕ) → exec t n c ≢ StackOverflow
      room zero e = cc
      room (suc n) e = b.room n (sym (same n) ∙ e)

      branches : (n : ℕ) (d : Config) → after_steps t n (Goes c) ≡ Goes d → length d.branches ≤ 1
      branches zero d e = let as_many : length c.branches ≡ length d.branches = ap held e in omega (arith, as_many, few)
      branches (suc n) d e = b.branches n d (sym (ap (λ o. after_steps t n (step_at t o c)) at) ∙ e)

  -- a failure is bounded, wherever it comes from
  abbrev pub FailsBounded : List Branch → ℕ → ℕ → ℕ → Type 0
  FailsBounded bs count starts k = (d : Config) → d.backtracks ≡ count → IsBounded count starts k (fail_to t bs d)

  -- without branches it ends
  pub none_left : (count starts k : ℕ) → FailsBounded [] count starts k
  none_left count starts k d e = answer_bounded count starts k d.longest

  -- the last branch, with one backtrack more
  pub one_left : (b : Branch) (count starts k : ℕ) →
      ((first : ℕ) (longest : Option (List ℕ)) → IsBounded (count + 1) starts k
      (Goes (record { now = b; branches = []; start = first; backtracks = count + 1; longest = longest }))) →
      FailsBounded (b ∷ []) count (suc starts) k
  one_left b count starts k on d e =
      subst
      (λ m. IsBounded count (suc starts) k (if nat_lt m t.backtrack_limit then Goes (next m) else Ends BacktrackLimitExceeded))
      (sym e)
      (record {
        steps = λ n le. steps n le (nat_lt count t.backtrack_limit);
        backtracks = λ le n.
            backtracks le n (nat_lt count t.backtrack_limit) (lt-ltb count t.backtrack_limit (omega (arith, le)));
        room = λ n. room n (nat_lt count t.backtrack_limit);
        branches = branches (nat_lt count t.backtrack_limit);
      })
    where
      next : ℕ → Config
      next m = record { now = b; branches = []; start = d.start; backtracks = m + 1; longest = d.longest }

      onward : Bool → Next
      onward v = if v then Goes (next count) else Ends BacktrackLimitExceeded

      steps : (n : ℕ) → k ≤ n → (v : Bool) → outcome_after t n (onward v) ≢ StepLimitExceeded
      steps n le true = (on d.start d.longest).steps n le
      steps n le false = λ q. cc

      backtracks : count + suc starts ≤ t.backtrack_limit → (n : ℕ) (v : Bool) → v ≡ true →
          outcome_after t n (onward v) ≢ BacktrackLimitExceeded
      backtracks le n true q = (on d.start d.longest).backtracks (omega (arith, le)) n
      backtracks le n false q = cc

      room : (n : ℕ) (v : Bool) → outcome_after t n (onward v) ≢ StackOverflow
      room n true = (on d.start d.longest).room n
      room n false = λ q. cc

      branches : (v : Bool) (n : ℕ) (c : Config) → after_steps t n (onward v) ≡ Goes c → length c.branches ≤ 1
      branches true = (on d.start d.longest).branches
      branches false = nothing_held BacktrackLimitExceeded

  -- ---- an attempt

  module _ (bs : List Branch) (few : length bs ≤ 1) (count starts k : ℕ) (failing : FailsBounded bs count starts k) where
    -- at a place of the program, above these branches
    pub record IsAt (place : ℕ) (c : Config) : Type 0 where
      pub pc : c.pc ≡ place
      pub branches : c.branches ≡ bs
      pub backtracks : c.backtracks ≡ count

    abbrev pub BoundedAt : ℕ → ℕ → Type 0
    BoundedAt pc m = (c : Config) → IsAt pc c → IsBounded count starts m (Goes c)

    fail_here : (pc : ℕ) (c : Config) → IsAt pc c → IsBounded count starts k (fail t c)
    fail_here pc c is =
        subst (λ l. IsBounded count starts k (fail_to t l c)) (sym is.branches) (failing c is.backtracks)

    few_here : (pc : ℕ) (c : Config) → IsAt pc c → length c.branches ≤ 1
    few_here pc c is = subst (λ l. length l ≤ 1) (sym is.branches) few

    stands : (pc : ℕ) (i : Instr) (c : Config) → slice_get (t.program).body pc ≡ Some i → IsAt pc c →
        slice_get (t.program).body c.pc ≡ Some i
    stands pc i c at is = ap (slice_get (t.program).body) is.pc ∙ at

    at_end : (pc : ℕ) → slice_get (t.program).body pc ≡ Some End → BoundedAt pc (suc k)
    at_end pc at c is = step_bounded End c (stands pc End c at is) (few_here pc c is) (by_test (t.not_empty && c.ix == c.start) t.leftmost_longest (is_longest t c))
      where
        held : Config
        held = record c { longest = Some (longer c.longest (numbers_of t c)) }

        by_test : (v u w : Bool) → IsBounded count starts k
            (if v then fail t c
            else (if u then (if w then Ends (Match (longer c.longest (numbers_of t c))) else fail t held)
            else Ends (Match (numbers_of t c))))
        by_test true u w = fail_here pc c is
        by_test false true true = match_bounded count starts k (longer c.longest (numbers_of t c))
        by_test false true false = fail_here pc held (record { pc = is.pc; branches = is.branches; backtracks = is.backtracks })
        by_test false false w = match_bounded count starts k (numbers_of t c)

    at_reject : (pc m : ℕ) → k ≤ m → slice_get (t.program).body pc ≡ Some RejectEmptyMatchAtEOFFollowingNewline →
        BoundedAt (pc + 1) m → BoundedAt pc (suc m)
    at_reject pc m le at on c is =
        step_bounded RejectEmptyMatchAtEOFFollowingNewline c (stands pc RejectEmptyMatchAtEOFFollowingNewline c at is) (few_here pc c is)
        (by_test (not (is_rejected t c)))
      where
        by_test : (v : Bool) → IsBounded count starts m (goes_if t v c)
        by_test true = on _ (record { pc = ap (λ x. x + 1) is.pc; branches = is.branches; backtracks = is.backtracks })
        by_test false = bounded_more le (fail_here pc c is)

    ends_bounded : (v : Bool) (pc : ℕ) → EndsAt (t.program).body v pc → BoundedAt pc (suc (suc k))
    ends_bounded true pc at = at_reject pc (suc k) (omega arith) at.0 (at_end (pc + 1) at.1)
    ends_bounded false pc at = λ c is. bounded_more (omega arith) (at_end pc at c is)

    at_save : (pc m slot : ℕ) → slice_get (t.program).body pc ≡ Some (Save slot) → BoundedAt (pc + 1) m → BoundedAt pc (suc m)
    at_save pc m slot at on c is =
        step_bounded (Save slot) c (stands pc (Save slot) c at is) (few_here pc c is)
        (on _ (record { pc = ap (λ x. x + 1) is.pc; branches = is.branches; backtracks = is.backtracks }))

    at_plain : (pc m : ℕ) → k ≤ m → {is : List Instr} → AtMostOne t is → HasAt (t.program).body pc is →
        BoundedAt (pc + length is) m → BoundedAt pc (suc m)
    at_plain pc m le no_instr has on c is =
        bounded_more (omega arith)
        (on c
        (record { pc = is.pc ∙ (let z : pc ≡ pc + 0 = omega arith in z); branches = is.branches; backtracks = is.backtracks }))
    at_plain pc m le (one_instr i plain) has on c is = step_bounded i c (stands pc i c has.0 is) (few_here pc c is) (by_case (plain c))
      where
        by_case : {next : Next} → GoesOrFails t c next → IsBounded count starts m next
        by_case (goes d e f g) =
            on d (record { pc = e ∙ ap (λ x. x + 1) is.pc; branches = f ∙ is.branches; backtracks = g ∙ is.backtracks })
        by_case fails = bounded_more le (fail_here pc c is)

    -- the first end is kept, the tree is one instruction at most, and the other end is kept
    pub attempt_bounded : (a : ℕ) (v : Bool) {is : List Instr} → AtMostOne t is → slice_get (t.program).body a ≡ Some (Save 0) →
        HasAt (t.program).body (a + 1) is → slice_get (t.program).body (a + 1 + length is) ≡ Some (Save 1) →
        EndsAt (t.program).body v (a + 1 + length is + 1) → BoundedAt a (suc (suc (suc (suc (suc k)))))
    attempt_bounded a v {is} plain start has end ends =
        at_save a (suc (suc (suc (suc k)))) 0 start
        (at_plain (a + 1) (suc (suc (suc k))) (omega arith) plain has
        (at_save (a + 1 + length is) (suc (suc k)) 1 end (ends_bounded v (a + 1 + length is + 1) ends)))
