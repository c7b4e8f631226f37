-- The ways at the head of a loop: out of it, or those of a further iteration.
use Rattle.std.proofs.Common.{◌≡◌, ◌≢◌, ℕ, suc, ◌+◌, ◌-◌, ◌<◌, ◌≤◌, min, Bool, true, false, ◌&&◌, not, if◌then◌else◌, List, [], ◌∷◌, flat_map, length, Option, Some, None, option_map, ◌==◌, nat_lt, inl, inr, ⊎_elim, refl, sym, ap, ap₂, ◌∙◌, arith, eq-eqb, IfSome}
use Rattle.std.proofs.lemmas.Bool.{or_cases, or_parts, ne_eqb, cond-true, cases_Bool, false≢true, cond-false, ltb-true, ltb-false, both_ways, not_from_false}
use Rattle.std.proofs.lemmas.Bool.Decides.{eqb_tells}
use Rattle.fancy_meaning.specs.Tree.{Tree}
use Rattle.fancy_meaning.specs.Options.{Analysis}
use Rattle.fancy_meaning.specs.MatchState.{MatchState, Ways}
use Rattle.fancy_meaning.specs.Loops.{prefer, required, at_most, if_moved, repeats}
use Rattle.fancy_meaning.specs.Ways.{Setting}
use Rattle.fancy_laws.proofs.Every.{every_weaker}
use Rattle.fancy_laws.proofs.EndlessLoops.{flat_map_same, goes_on_or_stops}
use Rattle.fancy_delegation.proofs.Binding as binding
use Rattle.fancy_nfa_laws.specs.NfaStates.{Loop}
use Rattle.fancy_nfa_laws.specs.NfaCode.{a_loop}
use Rattle.fancy_nfa_laws.specs.NfaSearch.{LoopCounter, has_stayed, is_last, is_over, next_count, next_counter}
use Rattle.fancy_nfa_laws.proofs.Tasks.{plain_ways, counter_ways, IsEasy, TakesSomething, LoopFits, CountFits}
use Rattle.fancy_nfa_laws.proofs.NodesMove.{goes_forward, node_moves}

-- no further iteration may begin, or one may
pub past_last : (hi count : ℕ) → is_last (Some hi) count ≡ true → hi ≤ count
past_last hi count last = go (nat_lt count hi) refl last
  where
    go : (b : Bool) → nat_lt count hi ≡ b → not b ≡ true → hi ≤ count
    go true e w = absurd (false≢true w)
    go false e w = ltb-false count hi e

pub before_last : (hi count : ℕ) → is_last (Some hi) count ≡ false → count < hi
before_last hi count more = go (nat_lt count hi) refl more
  where
    go : (b : Bool) → nat_lt count hi ≡ b → not b ≡ false → count < hi
    go true e w = ltb-true count hi e
    go false e w = absurd (false≢true (sym w))

module _ (a : Analysis) (q : Setting) (e : Tree) (greedy : Bool) where
  abbrev body : Ways
  body = plain_ways a q e

  abbrev pub any_number : Ways
  any_number = repeats q.text 0 None greedy body

  -- without a bound: on, unless an iteration did not move, or out
  endless : (m : MatchState) → m.place ≤ length q.text →
      any_number m ≡ prefer greedy (flat_map (if_moved m any_number) (body m)) (m ∷ [])
  endless m within = goes_on_or_stops (length q.text) greedy body (goes_forward a q e) m within

  -- over a body that takes something each iteration moves
  pub endless_moving : IsEasy a e → TakesSomething a e → (m : MatchState) → m.place ≤ length q.text →
      any_number m ≡ prefer greedy (flat_map any_number (body m)) (m ∷ [])
  endless_moving h some m within =
      endless m within
      ∙ ap (λ l. prefer greedy l (m ∷ []))
      (flat_map_same (if_moved m any_number) any_number
      (every_weaker
      (λ t moved. let lt = moved.0 in
      cond-false (t.place == m.place) (t ∷ []) (any_number t) (ne_eqb t.place m.place (λ z. omega (arith, z, lt))))
      (node_moves a q e h.0 some m within)))

-- what is left after so many iterations
module _ (text : List ℕ) (greedy : Bool) (body : Ways) (lo : ℕ) where
  abbrev left : Option ℕ → ℕ → Ways
  left hi count = repeats text (lo - count) (option_map (λ h. h - count) hi) greedy body

  abbrev within_bounds : (required_more may_more : ℕ) → Ways
  within_bounds n k = required n body (at_most k greedy body)

  none_left : (hi count : ℕ) (m : MatchState) → lo ≤ hi → hi ≤ count → left (Some hi) count m ≡ m ∷ []
  none_left hi count m le e =
      let none : lo - count ≡ 0 = omega (arith, le, e) in
      let no_more : hi - count - (lo - count) ≡ 0 = omega (arith, e) in
      ap₂ (λ n k. within_bounds n k m) none no_more

  one_required : (hi : Option ℕ) (count : ℕ) (m : MatchState) → IfSome hi (λ h. lo ≤ h) → count < lo →
      left hi count m ≡ flat_map (left hi (count + 1)) (body m)
  one_required None count m le lt =
      ap (λ n. repeats text n None greedy body m) (let more : lo - count ≡ suc (lo - (count + 1)) = omega (arith, lt) in more)
  one_required (Some hi) count m le lt =
      let more : lo - count ≡ suc (lo - (count + 1)) = omega (arith, lt) in
      let same : hi - count - (lo - count) ≡ hi - (count + 1) - (lo - (count + 1)) = omega (arith, lt, le) in
      ap₂ (λ n k. within_bounds n k m) more same

  one_more : (hi count : ℕ) (m : MatchState) → lo ≤ count → count < hi →
      left (Some hi) count m ≡ prefer greedy (flat_map (left (Some hi) (count + 1)) (body m)) (m ∷ [])
  one_more hi count m le lt =
      let none : lo - count ≡ 0 = omega (arith, le) in
      let more : hi - count - (lo - count) ≡ suc (hi - (count + 1)) = omega (arith, lt, le) in
      let none_after : lo - (count + 1) ≡ 0 = omega (arith, le) in
      let same : hi - (count + 1) - (lo - (count + 1)) ≡ hi - (count + 1) = omega (arith, le) in
      ap₂ (λ n k. within_bounds n k m) none more
      ∙ ap (λ l. prefer greedy l (m ∷ []))
      (binding.flat_map_same (at_most (hi - (count + 1)) greedy body) (left (Some hi) (count + 1))
      (λ x. sym (ap₂ (λ n k. within_bounds n k x) none_after same))
      (body m))

  any_number_left : (count : ℕ) (m : MatchState) → lo ≤ count → left None count m ≡ repeats text 0 None greedy body m
  any_number_left count m le =
      ap (λ n. repeats text n None greedy body m) (let none : lo - count ≡ 0 = omega (arith, le) in none)

module _ (a : Analysis) (q : Setting) (e : Tree) where
  abbrev left_of : Loop → ℕ → Ways
  left_of loop count = left q.text loop.greedy (plain_ways a q e) loop.lo loop.hi count

  -- it has not stayed: so many iterations are left
  counter_goes : (loop : Loop) (t : LoopCounter) (m : MatchState) → has_stayed m.place t.since ≡ false →
      counter_ways a q loop e t m ≡ left_of loop t.count m
  counter_goes loop t m goes = cond-false (has_stayed m.place t.since) (m ∷ []) (left_of loop t.count m) goes

  over_by_count : (lo : ℕ) (hi : Option ℕ) (greedy asks : Bool) (t : LoopCounter) (m : MatchState) →
      LoopFits a (a_loop lo hi greedy asks) e → has_stayed m.place t.since ≡ false → is_last hi t.count ≡ true →
      counter_ways a q (a_loop lo hi greedy asks) e t m ≡ m ∷ []
  over_by_count lo None greedy asks t m fits goes last = absurd (false≢true last)
  over_by_count lo (Some hi) greedy true t m fits goes last = absurd fits
  over_by_count lo (Some hi) greedy false t m fits goes last =
      counter_goes (a_loop lo (Some hi) greedy false) t m goes
      ∙ none_left q.text greedy (plain_ways a q e) lo hi t.count m fits (past_last hi t.count last)

  pub counter_is_over : (loop : Loop) (t : LoopCounter) (m : MatchState) → LoopFits a loop e → is_over loop m.place t ≡ true →
      counter_ways a q loop e t m ≡ m ∷ []
  counter_is_over loop t m fits over = elim (cases_Bool (has_stayed m.place t.since)) [
    | inl stayed ↦ cond-true (has_stayed m.place t.since) (m ∷ []) (left_of loop t.count m) stayed
    | inr goes ↦ over_by_count loop.lo loop.hi loop.greedy loop.asks_moved t m fits goes
        (⊎_elim (λ stayed. absurd (both_ways (has_stayed m.place t.since) goes stayed)) (λ last. last)
        (or_cases (has_stayed m.place t.since) (is_last loop.hi t.count) over))
  ]

  -- an iteration that is asked for nothing
  next_left : (loop : Loop) (u : LoopCounter) (count : ℕ) → u.since ≡ None → u.count ≡ count → (xs : List MatchState) →
      flat_map (left_of loop count) xs ≡ flat_map (counter_ways a q loop e u) xs
  next_left loop u count since same xs =
      binding.flat_map_same (left_of loop count) (counter_ways a q loop e u)
      (λ x. ap (λ c. left_of loop c x) (sym same) ∙ sym (counter_goes loop u x (ap (has_stayed x.place) since)))
      xs

  asks_later : (asks before : Bool) (place : ℕ) → before ≡ true → (if asks && not before then Some place else None) ≡ None
  asks_later false before place e = refl
  asks_later true true place e = refl
  asks_later true false place e = absurd (false≢true e)

  bounds_in_order : (lo : ℕ) (hi : Option ℕ) (greedy asks : Bool) → LoopFits a (a_loop lo hi greedy asks) e →
      IfSome hi (λ h. lo ≤ h)
  bounds_in_order lo None greedy asks fits = tt
  bounds_in_order lo (Some hi) greedy true fits = absurd fits
  bounds_in_order lo (Some hi) greedy false fits = fits

  counts_on : (lo : ℕ) (hi : Option ℕ) (count : ℕ) → count < lo → next_count lo hi count ≡ count + 1
  counts_on lo None count lt = omega (arith, lt)
  counts_on lo (Some hi) count lt = refl

  -- one that is required
  pub counter_goes_on : (loop : Loop) (t : LoopCounter) (m : MatchState) → LoopFits a loop e → is_over loop m.place t ≡ false →
      nat_lt t.count loop.lo ≡ true →
      counter_ways a q loop e t m ≡ flat_map (counter_ways a q loop e (next_counter loop m.place t)) (plain_ways a q e m)
  counter_goes_on loop t m fits goes lt =
      let more = ltb-true t.count loop.lo lt in
      counter_goes loop t m (or_parts (has_stayed m.place t.since) (is_last loop.hi t.count) goes).0
      ∙ one_required q.text loop.greedy (plain_ways a q e) loop.lo loop.hi t.count m
      (bounds_in_order loop.lo loop.hi loop.greedy loop.asks_moved fits) more
      ∙ next_left loop (next_counter loop m.place t) (t.count + 1)
      (asks_later loop.asks_moved (nat_lt t.count loop.lo) m.place lt)
      (counts_on loop.lo loop.hi t.count more) (plain_ways a q e m)

  same_test : (i j : ℕ) → (i == j) ≡ (j == i)
  same_test i j = ⊎_elim
      (λ (same : ((i == j) ≡ true) × (i ≡ j)). same.0 ∙ sym (eq-eqb j i (sym same.1)))
      (λ (other : ((i == j) ≡ false) × (i ≢ j)). other.0 ∙ sym (ne_eqb j i (λ e. other.1 (sym e))))
      (eqb_tells i j)

  -- one that is asked whether it moves
  if_not_stayed : (loop : Loop) (u : LoopCounter) (m x : MatchState) → u.since ≡ Some m.place →
      any_number a q e loop.greedy x ≡ left_of loop u.count x →
      if_moved m (any_number a q e loop.greedy) x ≡ counter_ways a q loop e u x
  if_not_stayed loop u m x since all =
      ap₂ (λ v l. if v then x ∷ [] else l) (same_test x.place m.place ∙ sym (ap (has_stayed x.place) since)) all

  past_required : (lo : ℕ) (hi : Option ℕ) (greedy asks : Bool) (t : LoopCounter) (m : MatchState) →
      IsEasy a e → LoopFits a (a_loop lo hi greedy asks) e → CountFits a (a_loop lo hi greedy asks) hi t.count →
      m.place ≤ length q.text → has_stayed m.place t.since ≡ false → is_last hi t.count ≡ false → nat_lt t.count lo ≡ false →
      counter_ways a q (a_loop lo hi greedy asks) e t m
      ≡ prefer greedy (flat_map (counter_ways a q (a_loop lo hi greedy asks) e (next_counter (a_loop lo hi greedy asks) m.place t)) (plain_ways a q e m))
      (m ∷ [])
  past_required lo (Some hi) greedy true t m h fits counts within goes last past = absurd fits
  past_required lo (Some hi) greedy false t m h fits counts within goes last past =
      let loop = a_loop lo (Some hi) greedy false in
      let le = ltb-false t.count lo past in
      let lt = before_last hi t.count last in
      counter_goes loop t m goes
      ∙ one_more q.text greedy (plain_ways a q e) lo hi t.count m le lt
      ∙ ap (λ l. prefer greedy l (m ∷ [])) (next_left loop (next_counter loop m.place t) (t.count + 1) refl refl (plain_ways a q e m))
  past_required lo None greedy false t m h fits counts within goes last past =
      let loop = a_loop lo None greedy false in
      let le = ltb-false t.count lo past in
      counter_goes loop t m goes
      ∙ any_number_left q.text greedy (plain_ways a q e) lo t.count m le
      ∙ endless_moving a q e greedy h fits m within
      ∙ ap (λ l. prefer greedy l (m ∷ []))
      (binding.flat_map_same (any_number a q e greedy) (counter_ways a q loop e (next_counter loop m.place t))
      (λ x. sym (any_number_left q.text greedy (plain_ways a q e) lo (min (t.count + 1) lo) x (omega (arith, le))))
      (plain_ways a q e m))
  past_required lo None greedy true t m h fits counts within goes last past =
      let loop = a_loop lo None greedy true in
      let le = ltb-false t.count lo past in
      counter_goes loop t m goes
      ∙ any_number_left q.text greedy (plain_ways a q e) lo t.count m le
      ∙ endless a q e greedy m within
      ∙ ap (λ l. prefer greedy l (m ∷ []))
      (binding.flat_map_same (if_moved m (any_number a q e greedy)) (counter_ways a q loop e (next_counter loop m.place t))
      (λ x. if_not_stayed loop (next_counter loop m.place t) m x (cond-true (not (nat_lt t.count lo)) (Some m.place) None (not_from_false _ past))
      (sym (any_number_left q.text greedy (plain_ways a q e) lo (min (t.count + 1) lo) x (omega (arith, le)))))
      (plain_ways a q e m))

  -- past those that are required: one more, or out
  pub counter_may_go_on : (loop : Loop) (t : LoopCounter) (m : MatchState) → IsEasy a e → LoopFits a loop e →
      CountFits a loop loop.hi t.count → m.place ≤ length q.text → is_over loop m.place t ≡ false → nat_lt t.count loop.lo ≡ false →
      counter_ways a q loop e t m
      ≡ prefer loop.greedy (flat_map (counter_ways a q loop e (next_counter loop m.place t)) (plain_ways a q e m)) (m ∷ [])
  counter_may_go_on loop t m h fits counts within goes past =
      let parts = or_parts (has_stayed m.place t.since) (is_last loop.hi t.count) goes in
      past_required loop.lo loop.hi loop.greedy loop.asks_moved t m h fits counts within parts.0 parts.1 past
