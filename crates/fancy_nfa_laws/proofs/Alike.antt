-- Configurations with the same pair lead to configurations with the same pairs.
use Rattle.std.proofs.Common.{◌≡◌, ◌≤◌, ◌<◌, ℕ, ◌+◌, Bool, true, false, ◌||◌, List, [], ◌∷◌, map, Option, Some, None, if◌then◌else◌, nat_lt, refl, ap, ap₂, sym, ◌∙◌, subst, arith, inl, inr}
use Rattle.std.proofs.lemmas.Bool.{cases_lt, ne_eqb}
use Rattle.fancy_meaning.specs.Assertions.{holds}
use Rattle.fancy_meaning.specs.Moves.{past_char}
use Rattle.fancy_meaning.specs.MatchState.{Span}
use Rattle.fancy_laws.proofs.Moves.{past_char_fits}
use Rattle.fancy_nfa_laws.specs.NfaStates.{Loop, NfaState, Match, Character, Holds, Open, Close, Split, BranchSplit, LoopSplit, Jump, Join, CounterBegin, CounterLoop}
use Rattle.fancy_nfa_laws.specs.NfaSearch.{LoopCounter, NfaConfig, Pair, StepResult, Found, Lost, Goes, Tries, pair_of, counter_key, has_stayed, next_counter, is_last, passes, forward, step_at, counter_loop_step, choice_step, goes_past, close_step}

abbrev pub AllAlike : List NfaConfig → List NfaConfig → Type 0
AllAlike [] [] = Unit {0}
AllAlike (s ∷ ss) (t ∷ ts) = (pair_of s ≡ pair_of t) × AllAlike ss ts
AllAlike ss ts = ⊥

-- they lead to configurations with the same pairs
abbrev pub AreAlike : StepResult → StepResult → Type 0
AreAlike Found Found = Unit {0}
AreAlike Lost Lost = Unit {0}
AreAlike (Goes s) (Goes t) = pair_of s ≡ pair_of t
AreAlike (Tries b s ss) (Tries c t ts) = AllAlike (s ∷ ss) (t ∷ ts)
AreAlike l k = ⊥

abbrev pub keys : ℕ → List LoopCounter → List (ℕ × Bool)
keys place ts = map (counter_key place) ts

-- ---- what began at or before a place

abbrev pub IsSince : Option ℕ → ℕ → Type 0
IsSince None place = Unit {0}
IsSince (Some since) place = since ≤ place

abbrev pub AllSince : List LoopCounter → ℕ → Type 0
AllSince [] place = Unit {0}
AllSince (t ∷ ts) place = IsSince t.since place × AllSince ts place

moved_on : (since : Option ℕ) (i j : ℕ) → i < j → IsSince since i → has_stayed j since ≡ false
moved_on None i j lt h = refl
moved_on (Some since) i j lt h = ne_eqb since j (λ e. omega (arith, lt, h, e))

-- further on the same counters have the same keys
keys_further : (i j : ℕ) (ts us : List LoopCounter) → i < j → AllSince ts i → AllSince us i → keys i ts ≡ keys i us → keys j ts ≡ keys j us
keys_further i j [] [] lt h k e = refl
keys_further i j [] (u ∷ us) lt h k e = cc
keys_further i j (t ∷ ts) [] lt h k e = cc
keys_further i j (t ∷ ts) (u ∷ us) lt h k e =
    let first : counter_key i t ≡ counter_key i u = cc in
    let rest : keys i ts ≡ keys i us = cc in
    ap₂ (λ x xs. x ∷ xs)
    (ap₂ (λ n b. (n, b)) (ap (λ x. x.0) first) (moved_on t.since i j lt h.0 ∙ sym (moved_on u.since i j lt k.0)))
    (keys_further i j ts us lt h.1 k.1 rest)

keys_on : (i j : ℕ) (ts us : List LoopCounter) → i ≤ j → AllSince ts i → AllSince us i → keys i ts ≡ keys i us → keys j ts ≡ keys j us
keys_on i j ts us le h k e =
    elim (cases_lt i j) [
      | inl lt ↦ keys_further i j ts us lt h k e
      | inr ge ↦ let same : i ≡ j = omega (arith, le, ge) in subst (λ n. keys n ts ≡ keys n us) same e
    ]

-- ---- each state

pub pair_is : (at place : ℕ) {x y : List (ℕ × Bool)} → x ≡ y →
    ◌≡◌ {A = Pair} (record { at = at; place = place; counters = x }) (record { at = at; place = place; counters = y })
pair_is at place e = ap (λ k. record { at = at; place = place; counters = k }) e

-- where a group ends, one was opened
abbrev pub IsOpen : List ℕ → Option NfaState → Type 0
IsOpen (from ∷ opened) p = Unit {0}
IsOpen [] (Some (Close g)) = ⊥
IsOpen [] p = Unit {0}

closes_alike : (g : ℕ) (s t : NfaConfig) (os ps : List ℕ) → IsOpen os (Some (Close g)) → IsOpen ps (Some (Close g)) →
    pair_of (forward s) ≡ pair_of (forward t) → AreAlike (close_step g s os) (close_step g t ps)
closes_alike g s t [] ps h k e = absurd h
closes_alike g s t (i ∷ os) [] h k e = absurd k
closes_alike g s t (i ∷ os) (j ∷ ps) h k e = e

module _ (at place : ℕ) (os ps : List ℕ) (xs ys : List (ℕ × Span)) where
  abbrev left : List LoopCounter → NfaConfig
  left ts = record { at = at; place = place; counters = ts; opened = os; spans = xs }

  abbrev right : List LoopCounter → NfaConfig
  right us = record { at = at; place = place; counters = us; opened = ps; spans = ys }

  choices_alike : (greedy : Bool) (s t u v : NfaConfig) → pair_of s ≡ pair_of t → pair_of u ≡ pair_of v →
      AreAlike (choice_step greedy s u) (choice_step greedy t v)
  choices_alike true s t u v e f = (e, (f, tt))
  choices_alike false s t u v e f = (f, (e, tt))

  counters_alike : (loop : Loop) (after count : ℕ) (a b : Option ℕ) (ts us : List LoopCounter) → has_stayed place a ≡ has_stayed place b →
      keys place ts ≡ keys place us →
      AreAlike (counter_loop_step loop after (left (record { count = count; since = a } ∷ ts)) (record { count = count; since = a } ∷ ts))
      (counter_loop_step loop after (right (record { count = count; since = b } ∷ us)) (record { count = count; since = b } ∷ us))
  counters_alike loop after count a b ts us stayed same =
      subst (λ x. AreAlike (step_if (has_stayed place a || is_last loop.hi count) on off)
      (step_if (x || is_last loop.hi count) on' off')) stayed
      (go (has_stayed place a || is_last loop.hi count) (nat_lt count loop.lo))
    where
      next : LoopCounter
      next = next_counter loop place (record { count = count; since = a })

      on : NfaConfig
      on = record { at = at + 1; place = place; counters = next ∷ ts; opened = os; spans = xs }

      off : NfaConfig
      off = record { at = after; place = place; counters = ts; opened = os; spans = xs }

      on' : NfaConfig
      on' = record { at = at + 1; place = place; counters = next ∷ us; opened = ps; spans = ys }

      off' : NfaConfig
      off' = record { at = after; place = place; counters = us; opened = ps; spans = ys }

      step_if : Bool → NfaConfig → NfaConfig → StepResult
      step_if over s t =
          if over then Tries true t [] else if nat_lt count loop.lo then Tries true s [] else choice_step loop.greedy s t

      same_on : pair_of on ≡ pair_of on'
      same_on = pair_is (at + 1) place (ap (λ k. counter_key place next ∷ k) same)

      same_off : pair_of off ≡ pair_of off'
      same_off = pair_is after place same

      go : (over below : Bool) → AreAlike
          (if over then Tries true off [] else if below then Tries true on [] else choice_step loop.greedy on off)
          (if over then Tries true off' [] else if below then Tries true on' [] else choice_step loop.greedy on' off')
      go true below = (same_off, tt)
      go false true = (same_on, tt)
      go false false = choices_alike loop.greedy on on' off off' same_on same_off

  counter_loops_alike : (loop : Loop) (after : ℕ) (ts us : List LoopCounter) → keys place ts ≡ keys place us →
      AreAlike (counter_loop_step loop after (left ts) ts) (counter_loop_step loop after (right us) us)
  counter_loops_alike loop after [] [] e = tt
  counter_loops_alike loop after [] (u ∷ us) e = cc
  counter_loops_alike loop after (t ∷ ts) [] e = cc
  counter_loops_alike loop after (t ∷ ts) (u ∷ us) e =
      let first : counter_key place t ≡ counter_key place u = cc in
      let rest : keys place ts ≡ keys place us = cc in
      subst (λ n. AreAlike (counter_loop_step loop after (left (t ∷ ts)) (t ∷ ts))
      (counter_loop_step loop after (right (record { count = n; since = u.since } ∷ us)) (record { count = n; since = u.since } ∷ us)))
      (ap (λ x. x.0) first)
      (counters_alike loop after t.count t.since u.since ts us (ap (λ x. x.1) first) rest)

  module _ (text : List ℕ) (unicode : Bool) (ts us : List LoopCounter) (same : keys place ts ≡ keys place us) where
    same_at : (n : ℕ) → ◌≡◌ {A = Pair} (record { at = n; place = place; counters = keys place ts })
        (record { at = n; place = place; counters = keys place us })
    same_at n = pair_is n place same

    past_alike : (i : Option ℕ) → ((j : ℕ) → i ≡ Some j → place ≤ j) → AllSince ts place → AllSince us place →
        AreAlike (goes_past (left ts) i) (goes_past (right us) i)
    past_alike None on h k = tt
    past_alike (Some j) on h k = pair_is (at + 1) j (keys_on place j ts us (on j refl) h k same)

    holds_alike : (b : Bool) → AreAlike (if b then Goes (forward (left ts)) else Lost) (if b then Goes (forward (right us)) else Lost)
    holds_alike true = same_at (at + 1)
    holds_alike false = tt

    pub steps_alike : (p : Option NfaState) → IsOpen os p → IsOpen ps p → AllSince ts place → AllSince us place →
        AreAlike (step_at text unicode p (left ts)) (step_at text unicode p (right us))
    steps_alike None o o' h k = tt
    steps_alike (Some Match) o o' h k = tt
    steps_alike (Some (Character test)) o o' h k =
        past_alike (past_char text (passes text unicode test) place)
        (λ j e. (past_char_fits text (passes text unicode test) place j e).0) h k
    steps_alike (Some (Holds x)) o o' h k = holds_alike (holds text place unicode x)
    steps_alike (Some Open) o o' h k = same_at (at + 1)
    steps_alike (Some (Close g)) o o' h k = closes_alike g (left ts) (right us) os ps o o' (same_at (at + 1))
    steps_alike (Some (Split first second)) o o' h k = (same_at first, (same_at second, tt))
    steps_alike (Some (BranchSplit first second)) o o' h k = (same_at first, (same_at second, tt))
    steps_alike (Some (LoopSplit first second)) o o' h k = (same_at first, (same_at second, tt))
    steps_alike (Some (Jump to)) o o' h k = same_at to
    steps_alike (Some Join) o o' h k = (same_at (at + 1), tt)
    steps_alike (Some CounterBegin) o o' h k = pair_is (at + 1) place (ap (λ x. (0, false) ∷ x) same)
    steps_alike (Some (CounterLoop loop after)) o o' h k = counter_loops_alike loop after ts us same
