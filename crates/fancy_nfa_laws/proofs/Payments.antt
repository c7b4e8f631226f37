-- Each step of the search is paid for: by what its tasks weigh, or at a memoized state by the charge of its pair.
use Rattle.std.proofs.Common.{◌≡◌, ◌≤◌, inl, inr, ℕ, zero, suc, ◌+◌, Bool, true, false, List, [], ◌∷◌, length, map, Option, Some, None, if◌then◌else◌, nat_lt, slice_get, refl, sym, ap, subst, arith}
use Rattle.std.proofs.lemmas.Bool.{cases_order}
use Rattle.fancy_meaning.specs.Assertions.{holds, is_of_end}
use Rattle.fancy_meaning.specs.Moves.{past_char}
use Rattle.fancy_meaning.specs.Tree.{none, more}
use Rattle.fancy_meaning.specs.Options.{Analysis}
use Rattle.fancy_meaning.specs.Places.{range_from}
use Rattle.fancy_meaning.specs.MatchState.{MatchState}
use Rattle.fancy_meaning.specs.Ways.{Setting}
use Rattle.fancy_delegation.proofs.Items.{IsIn, first, later, is_in_append_left, is_in_append_right, is_in_map}
use Rattle.fancy_nfa_laws.specs.NfaStates.{Loop, NfaState}
use Rattle.fancy_nfa_laws.specs.NfaSearch.{LoopCounter, NfaConfig, is_counted, pair_of, counter_key, has_stayed, passes, is_over, next_counter}
use Rattle.fancy_nfa_laws.proofs.Tasks.{Task, TaskStep, Found, Lost, Goes, Tries, task_step, goes_past, tries_in_order, with_node, Takes, Asserts, Opens, Closes, Chooses, May, Stars, StartsPlus, Counts, Iterates, Jumps, Joins, CountFits, SinceFits, TasksFit}
use Rattle.fancy_nfa_laws.proofs.Standing.{IsConfigOf}
use Rattle.fancy_nfa_laws.proofs.Weights.{cost, is_counted_task, weight, charge, IsWeighed, step_weighed}
use Rattle.fancy_nfa_laws.proofs.Fees.{as_key, keys_of, keys_with, most_count, Fee, fee_with}
use Rattle.fancy_nfa_laws.proofs.CounterLoops.{CounterLoopLaid, stands_head, stands_counters, counters_of}
use Rattle.fancy_nfa_laws.proofs.FeePlaces.{FeesStand, around_of}
use Rattle.fancy_nfa_laws.proofs.Totals.{total_by}
use Rattle.fancy_nfa_laws.proofs.FeeSums.{AreKeys, charge_of, charge_at, IsNotable}

-- ---- the keys of the counters

in_range : (i n k : ℕ) → i ≤ k → suc k ≤ i + n → IsIn k (range_from i n)
in_range i zero k le lt = absurd (omega (arith, le, lt))
in_range i (suc n) k le lt =
    elim (cases_order i k) [
      | inl same ↦ subst (λ j. IsIn k (j ∷ range_from (suc i) n)) (sym same) first
      | inr apart ↦ later (in_range (suc i) n k (elim apart [ inl less ↦ omega (arith, less) | inr under ↦ absurd (omega (arith, under, le)) ])
          (omega (arith, lt)))
    ]

has_key : (loop : Loop) (count : ℕ) (stayed : Bool) → count ≤ most_count loop loop.hi → (stayed ≡ true → loop.asks_moved ≡ true) →
    IsIn (count, stayed) (keys_of loop)
has_key loop count stayed le asks = go stayed refl
  where
    is_key : (b : Bool) → IsIn (count, b) (keys_with loop b)
    is_key b = is_in_map (as_key b) (in_range 0 (most_count loop loop.hi + 1) count (omega arith) (omega (arith, le)))

    go : (b : Bool) → stayed ≡ b → IsIn (count, b) (keys_of loop)
    go false e = is_in_append_left (if loop.asks_moved then keys_with loop true else []) (is_key false)
    go true e =
        is_in_append_right (keys_with loop false)
        (subst (λ b. IsIn (count, true) (if b then keys_with loop true else [])) (sym (asks e)) (is_key true))

count_within : (a : Analysis) (loop : Loop) (hi : Option ℕ) (count : ℕ) → CountFits a loop hi count → count ≤ most_count loop hi
count_within a loop None count h = h
count_within a loop (Some hi) count h = h

stayed_asks : (a : Analysis) (loop : Loop) (since : Option ℕ) (place : ℕ) → SinceFits a loop since place → has_stayed place since ≡ true →
    loop.asks_moved ≡ true
stayed_asks a loop None place h e = cc
stayed_asks a loop (Some since) place h e = h.1

counter_has_key : (a : Analysis) (loop : Loop) (t : LoopCounter) (place : ℕ) → CountFits a loop loop.hi t.count → SinceFits a loop t.since place →
    IsIn (counter_key place t) (keys_of loop)
counter_has_key a loop t place c s =
    has_key loop t.count (has_stayed place t.since) (count_within a loop loop.hi t.count c) (stayed_asks a loop t.since place s)

are_keys : (a : Analysis) (ts : List Task) (place : ℕ) → TasksFit a place ts → AreKeys (map (counter_key place) (counters_of ts)) (around_of ts)
are_keys a [] place h = tt
are_keys a (Iterates loop e t ∷ ts) place h = (counter_has_key a loop t place h.0.2 h.0.3, are_keys a ts place h.1)
are_keys a (t ∷ ts) place h = are_keys a ts place h.1

module _ (a : Analysis) (states : List NfaState) (fees : List (Option Fee)) where
  -- whether the state here is counted
  counter_loop_counted : (p : ℕ) (ts : List Task) → CounterLoopLaid a states p ts → FeesStand a states fees p ts →
      is_counted (slice_get states p) ≡ is_counted_task ts
  counter_loop_counted p [] h k = ap is_counted h
  counter_loop_counted p (Takes test ∷ ts) h k = ap is_counted h
  counter_loop_counted p (Asserts x ∷ ts) h k = ap is_counted h
  counter_loop_counted p (Opens g e ∷ ts) h k = ap is_counted h.0
  counter_loop_counted p (Closes g from ∷ ts) h k = ap is_counted h
  counter_loop_counted p (Chooses is_first e none ∷ ts) h k = absurd k
  counter_loop_counted p (Chooses true e (more f es) ∷ ts) h k = ap is_counted h.0
  counter_loop_counted p (Chooses false e (more f es) ∷ ts) h k = ap is_counted h.0
  counter_loop_counted p (May true e ∷ ts) h k = ap is_counted h.0
  counter_loop_counted p (May false e ∷ ts) h k = ap is_counted h.0
  counter_loop_counted p (Stars true e ∷ ts) h k = ap is_counted h.0
  counter_loop_counted p (Stars false e ∷ ts) h k = ap is_counted h.0
  counter_loop_counted p (StartsPlus greedy e ∷ ts) h k = ap is_counted h.0
  counter_loop_counted p (Counts loop e ∷ ts) h k = ap is_counted h.0
  counter_loop_counted p (Iterates loop e t ∷ ts) h k = ap is_counted h.0
  counter_loop_counted p (Jumps ∷ ts) h k = ap is_counted h.1
  counter_loop_counted p (Joins ∷ ts) h k = ap is_counted h

  -- the fee here
  abbrev HasFee : ℕ → List Task → TaskStep → Type 0
  HasFee p ts (Tries true tss m) = slice_get fees p ≡ Some (fee_with (around_of ts) (charge a ts))
  HasFee p ts k = Unit {0}

  module _ (q : Setting) where
    fee_past : (p : ℕ) (ts us : List Task) (m : MatchState) (i : Option ℕ) → HasFee p ts (goes_past a q us m i)
    fee_past p ts us m None = tt
    fee_past p ts us m (Some i) = tt

    fee_if : (p : ℕ) (ts us : List Task) (m : MatchState) (b : Bool) → HasFee p ts (if b then Goes us m else Lost)
    fee_if p ts us m true = tt
    fee_if p ts us m false = tt

    fee_in_order : (p : ℕ) (ts on off : List Task) (m : MatchState) (greedy : Bool) →
        slice_get fees p ≡ Some (fee_with (around_of ts) (charge a ts)) → HasFee p ts (tries_in_order a greedy on off m)
    fee_in_order p ts on off m true h = h
    fee_in_order p ts on off m false h = h

    fee_of_counter : (p : ℕ) (ts on off : List Task) (m : MatchState) (greedy over begins : Bool) →
        slice_get fees p ≡ Some (fee_with (around_of ts) (charge a ts)) →
        HasFee p ts
        (if over then Tries true (off ∷ []) m else if begins then Tries true (on ∷ []) m else tries_in_order a greedy on off m)
    fee_of_counter p ts on off m greedy true begins h = h
    fee_of_counter p ts on off m greedy false true h = h
    fee_of_counter p ts on off m greedy false false h = fee_in_order p ts on off m greedy h

    has_fee : (p : ℕ) (ts : List Task) (m : MatchState) → FeesStand a states fees p ts → HasFee p ts (task_step a q ts m)
    has_fee p (Takes test ∷ ts) m h =
        fee_past p (Takes test ∷ ts) ts m (past_char q.text (passes q.text q.unicode test) m.place)
    has_fee p (Asserts x ∷ ts) m h =
        fee_if p (Asserts x ∷ ts) ts (if is_of_end x then record m { text_end = true } else m) (holds q.text m.place q.unicode x)
    has_fee p (May true e ∷ ts) m h = tt
    has_fee p (May false e ∷ ts) m h = tt
    has_fee p (Stars greedy e ∷ ts) m h =
        fee_in_order p (Stars greedy e ∷ ts) (with_node a e (Jumps ∷ Stars greedy e ∷ ts)) ts m greedy h.0.0
    has_fee p (Iterates loop e t ∷ ts) m h =
        fee_of_counter p (Iterates loop e t ∷ ts) (with_node a e (Jumps ∷ Iterates loop e (next_counter loop m.place t) ∷ ts)) ts m
        loop.greedy (is_over loop m.place t) (nat_lt t.count loop.lo) h.0.0
    has_fee p (Joins ∷ ts) m h = h.0
    has_fee p ts m h = tt

    -- a step is paid for
    abbrev pub IsPaid : (from : ℕ) → NfaConfig → List Task → TaskStep → Type 0
    IsPaid from s ts Found = cost (is_counted (slice_get states s.at)) ≤ weight a ts
    IsPaid from s ts Lost = cost (is_counted (slice_get states s.at)) ≤ weight a ts
    IsPaid from s ts (Goes us n) = cost (is_counted (slice_get states s.at)) + weight a us ≤ weight a ts
    IsPaid from s ts (Tries false tss n) = cost (is_counted (slice_get states s.at)) + total_by (weight a) tss ≤ weight a ts
    IsPaid from s ts (Tries true tss n) =
        IsNotable fees from (length q.text) (pair_of s)
        × (cost (is_counted (slice_get states s.at)) + total_by (weight a) tss ≤ charge_at fees (pair_of s))

    paid_by : (from : ℕ) (s : NfaConfig) (ts : List Task) (k : TaskStep) → is_counted (slice_get states s.at) ≡ is_counted_task ts →
        IsWeighed a ts k → HasFee s.at ts k → AreKeys (pair_of s).counters (around_of ts) → from ≤ s.place → s.place ≤ length q.text →
        IsPaid from s ts k
    paid_by from s ts Found e w h t le lt = subst (λ b. cost b ≤ weight a ts) (sym e) w
    paid_by from s ts Lost e w h t le lt = subst (λ b. cost b ≤ weight a ts) (sym e) w
    paid_by from s ts (Goes us n) e w h t le lt = subst (λ b. cost b + weight a us ≤ weight a ts) (sym e) w
    paid_by from s ts (Tries false tss n) e w h t le lt = subst (λ b. cost b + total_by (weight a) tss ≤ weight a ts) (sym e) w
    paid_by from s ts (Tries true tss n) e w h t le lt = (
      record { fee = record { around = around_of ts; charge = charge a ts }; is_memoized = h; counters = t; begins = le; ends = lt },
      subst (λ o. cost (is_counted (slice_get states s.at)) + total_by (weight a) tss ≤ charge_of o) (sym h)
          (subst (λ b. cost b + total_by (weight a) tss ≤ charge a ts) (sym e) w.1),
    )

    -- a step is paid for, where the tasks stand among the fees
    pub step_paid : (from : ℕ) (s : NfaConfig) (ts : List Task) (m : MatchState) → IsConfigOf a states s ts m →
        FeesStand a states fees s.at ts → TasksFit a m.place ts → from ≤ s.place → s.place ≤ length q.text →
        IsPaid from s ts (task_step a q ts m)
    step_paid from s ts m is h fits le lt =
        let counters = stands_counters a states s.at s.counters s.opened ts is.stands in
        let fit = subst (λ i. TasksFit a i ts) (sym is.place) fits in
        let keys = subst (λ vs. AreKeys (map (counter_key s.place) vs) (around_of ts)) (sym counters) (are_keys a ts s.place fit) in
        paid_by from s ts (task_step a q ts m)
        (counter_loop_counted s.at ts (stands_head a states s.at s.counters s.opened ts is.stands) h)
        (step_weighed a q ts m) (has_fee s.at ts m h) keys le lt
