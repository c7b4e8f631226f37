-- What each step of the tasks means: it keeps their ways, they still fit, and they get lower.
use Rattle.std.proofs.Common.{◌≡◌, ℕ, ◌-◌, ◌<◌, ◌≤◌, Bool, true, false, ◌&&◌, not, if◌then◌else◌, List, [], ◌∷◌, ◌++◌, flat_map, length, Option, Some, None, option_map, nat_lt, inl, inr, refl, sym, ap, ap₂, ◌∙◌, append-nil, arith}
use Rattle.std.proofs.lemmas.Bool.{cond_both, and_parts, or_parts}
use Rattle.std.proofs.lemmas.Grind.{flat_map-append}
use Rattle.std.proofs.lemmas.List.Folds.{flat_map-map}
use Rattle.std.proofs.lemmas.Str.{len_utf8_bounds}
use Rattle.fancy_meaning.specs.Tree.{Tree, Trees, none, more, Alt, Assertion}
use Rattle.fancy_meaning.specs.Options.{Analysis}
use Rattle.fancy_meaning.specs.WellFormed.{IsFine}
use Rattle.fancy_meaning.specs.Assertions.{holds, is_of_end}
use Rattle.fancy_meaning.specs.Moves.{past_char}
use Rattle.fancy_meaning.specs.MatchState.{MatchState, Ways, moved_to, with_span, one_of, fails}
use Rattle.fancy_meaning.specs.Loops.{prefer, repeats}
use Rattle.fancy_meaning.specs.Ways.{Setting, moves, each_ways}
use Rattle.fancy_laws.proofs.Moves.{past_char_tells, past_char_fits}
use Rattle.fancy_delegation.proofs.Binding.{flat_map_through, flat_map_same}
use Rattle.fancy_nfa_laws.specs.NfaStates.{CharTest, Loop}
use Rattle.fancy_nfa_laws.specs.NfaSearch.{LoopCounter, passes, has_stayed, is_last, is_over, next_count, next_counter}
use Rattle.fancy_nfa_laws.specs.NfaCode.{a_loop}
use Rattle.fancy_nfa_laws.proofs.Tasks.{Task, TaskStep, Lost, Goes, Tries, Takes, Asserts, Opens, Closes, Chooses, May, Stars, StartsPlus, Counts, Iterates, Jumps, Joins, may_be_empty, with_node, with_branches, tries_in_order, goes_past, counter_step, task_step, plain_ways, counter_ways, ways_of_task, ways_of_tasks, IsEasy, AreAllEasy, TakesSomething, LoopFits, CountFits, SinceFits, TasksFit}
use Rattle.fancy_nfa_laws.proofs.StepLaws.{StepMeans}
use Rattle.fancy_nfa_laws.proofs.TaskWays.{flat_map_one, flat_map_prefer, node_steps, branches_step, node_fits, branches_fit, tasks_fit_on}
use Rattle.fancy_nfa_laws.proofs.CounterWays.{before_last, endless_moving, counter_is_over, counter_goes_on, counter_may_go_on}
use Rattle.fancy_nfa_laws.proofs.Ranks.{rank, node_rank, rank_before, moving_rank, branch_rank, later_rank, first_counter_rank, counter_rank, over_rank, past_rank, only_if_at_most}

module _ (q : Setting) (a : Analysis) where
  abbrev ways_at : List Task → Ways
  ways_at = ways_of_tasks a q

  -- they fit at this place, with a lower rank
  abbrev IsBelow : List Task → List Task → ℕ → Type 0
  IsBelow us ts place = TasksFit a place us × (rank a us place < rank a ts place)

  abbrev Means : List Task → MatchState → TaskStep → Type 0
  Means = StepMeans q a (rank a)

  one_means : (is_memoized : Bool) (us ts : List Task) (m : MatchState) → ways_at us m ≡ ways_at ts m → IsBelow us ts m.place →
      Means ts m (Tries is_memoized (us ∷ []) m)
  one_means is_memoized us ts m same below =
      (refl, append-nil (ways_at us m) ∙ same, ((below.0, inr (refl, below.1)), tt))

  both_mean : (is_memoized : Bool) (us vs ts : List Task) (m : MatchState) → ways_at us m ++ ways_at vs m ≡ ways_at ts m →
      IsBelow us ts m.place → IsBelow vs ts m.place → Means ts m (Tries is_memoized (us ∷ vs ∷ []) m)
  both_mean is_memoized us vs ts m same first second = (
    refl,
    ap (λ l. ways_at us m ++ l) (append-nil (ways_at vs m)) ∙ same,
    ((first.0, inr (refl, first.1)), ((second.0, inr (refl, second.1)), tt)),
  )

  choice_means : (greedy : Bool) (on off ts : List Task) (m : MatchState) →
      prefer greedy (ways_at on m) (ways_at off m) ≡ ways_at ts m →
      IsBelow on ts m.place → IsBelow off ts m.place → Means ts m (tries_in_order a greedy on off m)
  choice_means true on off ts m same first second = both_mean true on off ts m same first second
  choice_means false on off ts m same first second = both_mean true off on ts m same second first

  -- ---- the ways of a node's tasks before others

  -- back to this task
  again : (e : Tree) (t : Task) (ts : List Task) (m : MatchState) → IsEasy a e →
      ways_at (with_node a e (Jumps ∷ t ∷ ts)) m ≡ flat_map (ways_at ts) (flat_map (ways_of_task a q t) (plain_ways a q e m))
  again e t ts m h =
      node_steps a q e h (Jumps ∷ t ∷ ts) m
      ∙ flat_map_same (ways_at (Jumps ∷ t ∷ ts)) (λ x. flat_map (ways_at ts) (ways_of_task a q t x))
      (λ x. flat_map_one (ways_at (t ∷ ts)) x) (plain_ways a q e m)
      ∙ sym (flat_map_through (ways_of_task a q t) (ways_at ts) (plain_ways a q e m))

  -- further ways, or on
  choice_ways : (greedy : Bool) (on ts : List Task) (t : Task) (m : MatchState) (further : List MatchState) →
      ways_at on m ≡ flat_map (ways_at ts) further → ways_of_task a q t m ≡ prefer greedy further (m ∷ []) →
      prefer greedy (ways_at on m) (ways_at ts m) ≡ ways_at (t ∷ ts) m
  choice_ways greedy on ts t m further same all =
      ap₂ (λ x y. prefer greedy x y) same (sym (flat_map_one (ways_at ts) m))
      ∙ sym (flat_map_prefer (ways_at ts) greedy further (m ∷ []))
      ∙ ap (flat_map (ways_at ts)) (sym all)

  -- ---- task by task

  takes_leads : (test : CharTest) (ts : List Task) (m : MatchState) → TasksFit a m.place ts → (o : Option ℕ) →
      past_char q.text (passes q.text q.unicode test) m.place ≡ o → Means (Takes test ∷ ts) m (goes_past a q ts m o)
  takes_leads test ts m fit None e = ap (λ o. flat_map (ways_at ts) (moves q (λ j. o) m)) e
  takes_leads test ts m fit (Some i) e =
      let there = past_char_tells q.text (passes q.text q.unicode test) m.place i e in
      let some = (len_utf8_bounds there.char).0 in
      let on : m.place < i = omega (arith, there.to, some) in (
        sym (ap (λ o. flat_map (ways_at ts) (moves q (λ j. o) m)) e ∙ flat_map_one (ways_at ts) (moved_to i m)),
        tasks_fit_on a ts m.place i (omega (arith, on)) fit,
        (past_char_fits q.text (passes q.text q.unicode test) m.place i e).1,
        inl on,
      )

  asserts_leads : (x : Assertion) (ts : List Task) (m : MatchState) → TasksFit a m.place ts → m.place ≤ length q.text →
      Means (Asserts x ∷ ts) m (task_step a q (Asserts x ∷ ts) m)
  asserts_leads x ts m fit within =
      cond_both (holds q.text m.place q.unicode x) (Goes ts met) Lost (Means (Asserts x ∷ ts) m)
      (λ e. goes (is_of_end x) (sym (ap at e ∙ flat_map_one (ways_at ts) met)))
      (λ e. ap at e)
    where
      met : MatchState
      met = if is_of_end x then record m { text_end = true } else m

      at : Bool → List MatchState
      at v = flat_map (ways_at ts) (if v then met ∷ [] else [])

      goes : (v : Bool) → ways_at ts (if v then record m { text_end = true } else m) ≡ ways_at (Asserts x ∷ ts) m →
          Means (Asserts x ∷ ts) m (Goes ts (if v then record m { text_end = true } else m))
      goes true same = (same, fit, within, inr (refl, omega arith))
      goes false same = (same, fit, within, inr (refl, omega arith))

  opens_leads : (g : ℕ) (e : Tree) (ts : List Task) (m : MatchState) → IsEasy a e → TasksFit a m.place ts → m.place ≤ length q.text →
      Means (Opens g e ∷ ts) m (task_step a q (Opens g e ∷ ts) m)
  opens_leads g e ts m h fit within = (
    node_steps a q e h (Closes g m.place ∷ ts) m
        ∙ flat_map_same (ways_at (Closes g m.place ∷ ts)) (λ x. ways_at ts (with_span g (m.place, x.place) x))
        (λ x. flat_map_one (ways_at ts) (with_span g (m.place, x.place) x)) (plain_ways a q e m)
        ∙ sym (flat_map-map (ways_at ts) (λ t. with_span g (m.place, t.place) t) (plain_ways a q e m)),
    node_fits a e h m.place (Closes g m.place ∷ ts) (tt, fit),
    within,
    inr (refl, let le = rank_before a m.place e (Closes g m.place ∷ ts) (rank a ts m.place) h refl in omega (arith, le)),
  )

  chooses_leads : (is_first : Bool) (e : Tree) (es : Trees) (ts : List Task) (m : MatchState) →
      IsEasy a e → AreAllEasy a es → IsFine (Alt es) → TasksFit a m.place ts →
      Means (Chooses is_first e es ∷ ts) m (task_step a q (Chooses is_first e es ∷ ts) m)
  chooses_leads is_first e none ts m h hs some fit = absurd some
  chooses_leads is_first e (more f es) ts m h hs some fit =
      both_mean false (with_node a e (Jumps ∷ ts)) (with_branches a false (more f es) ts) (Chooses is_first e (more f es) ∷ ts) m
      (ap₂ ◌++◌
      (node_steps a q e h (Jumps ∷ ts) m
      ∙ flat_map_same (ways_at (Jumps ∷ ts)) (ways_at ts) (λ x. flat_map_one (ways_at ts) x) (plain_ways a q e m))
      (branches_step a q false (more f es) hs some ts m)
      ∙ sym (flat_map-append (ways_at ts) (plain_ways a q e m) (one_of (each_ways q (λ g. fails) (more f es)) m)))
      (node_fits a e h m.place (Jumps ∷ ts) (tt, fit), branch_rank a m.place is_first e f es ts h)
      (branches_fit a false (more f es) hs some m.place ts fit, later_rank a m.place is_first e f es ts hs)

  may_leads : (greedy : Bool) (e : Tree) (ts : List Task) (m : MatchState) → IsEasy a e → TasksFit a m.place ts →
      Means (May greedy e ∷ ts) m (task_step a q (May greedy e ∷ ts) m)
  may_leads greedy e ts m h fit = go greedy
    where
      in_body : IsBelow (with_node a e ts) (May greedy e ∷ ts) m.place
      in_body =
          let le = node_rank a m.place e h ts in
          let all = only_if_at_most (may_be_empty a e) (rank a ts m.place) in
          (node_fits a e h m.place ts fit, omega (arith, le, all))

      past : IsBelow ts (May greedy e ∷ ts) m.place
      past = (fit, omega arith)

      same : (b : Bool) → prefer b (ways_at (with_node a e ts) m) (ways_at ts m) ≡ ways_at (May b e ∷ ts) m
      same b = choice_ways b (with_node a e ts) ts (May b e) m (plain_ways a q e m) (node_steps a q e h ts m) refl

      go : (b : Bool) → Means (May b e ∷ ts) m (task_step a q (May b e ∷ ts) m)
      go true = both_mean false (with_node a e ts) ts (May true e ∷ ts) m (same true) in_body past
      go false = both_mean false ts (with_node a e ts) (May false e ∷ ts) m (same false) past in_body

  stars_step : (greedy : Bool) (e : Tree) (ts : List Task) (m : MatchState) → IsEasy a e → TakesSomething a e → TasksFit a m.place ts →
      m.place ≤ length q.text → Means (Stars greedy e ∷ ts) m (task_step a q (Stars greedy e ∷ ts) m)
  stars_step greedy e ts m h some fit within =
      choice_means greedy (with_node a e (Jumps ∷ Stars greedy e ∷ ts)) ts (Stars greedy e ∷ ts) m
      (choice_ways greedy (with_node a e (Jumps ∷ Stars greedy e ∷ ts)) ts (Stars greedy e) m
      (flat_map (repeats q.text 0 None greedy (plain_ways a q e)) (plain_ways a q e m))
      (again e (Stars greedy e) ts m h) (endless_moving a q e greedy h some m within)) (
        node_fits a e h m.place (Jumps ∷ Stars greedy e ∷ ts) (tt, ((h, some), fit)),
        let le = moving_rank a m.place e (Jumps ∷ Stars greedy e ∷ ts) h some in omega (arith, le),
      )
      (fit, omega arith)

  starts_plus_leads : (greedy : Bool) (e : Tree) (ts : List Task) (m : MatchState) → IsEasy a e → TakesSomething a e →
      TasksFit a m.place ts → m.place ≤ length q.text → Means (StartsPlus greedy e ∷ ts) m (task_step a q (StartsPlus greedy e ∷ ts) m)
  starts_plus_leads greedy e ts m h some fit within = (
    again e (Stars greedy e) ts m h,
    node_fits a e h m.place (Jumps ∷ Stars greedy e ∷ ts) (tt, ((h, some), fit)),
    within,
    inr (refl, let le = moving_rank a m.place e (Jumps ∷ Stars greedy e ∷ ts) h some in omega (arith, le)),
  )

  -- ---- loops that count

  -- none of them begun
  counts_from_none : (hi : Option ℕ) → option_map (λ n. n - 0) hi ≡ hi
  counts_from_none None = refl
  counts_from_none (Some hi) = ap (λ n. Some n) (let same : hi - 0 ≡ hi = omega arith in same)

  none_counted : (loop : Loop) (hi : Option ℕ) → CountFits a loop hi 0
  none_counted loop None = omega arith
  none_counted loop (Some hi) = omega arith

  counts_step : (loop : Loop) (e : Tree) (ts : List Task) (m : MatchState) → TasksFit a m.place (Counts loop e ∷ ts) →
      m.place ≤ length q.text → Means (Counts loop e ∷ ts) m (task_step a q (Counts loop e ∷ ts) m)
  counts_step loop e ts m fit within = (
    ap₂ (λ lo hi. flat_map (ways_at ts) (repeats q.text lo hi loop.greedy (plain_ways a q e) m))
        (let same : loop.lo - 0 ≡ loop.lo = omega arith in same) (counts_from_none loop.hi),
    ((fit.0.0, fit.0.1, none_counted loop loop.hi, tt), fit.1),
    within,
    inr (refl, first_counter_rank a e loop ts m.place),
  )

  count_fits_next : (lo : ℕ) (hi : Option ℕ) (greedy asks : Bool) (t : LoopCounter) (place : ℕ) →
      CountFits a (a_loop lo hi greedy asks) hi t.count → is_over (a_loop lo hi greedy asks) place t ≡ false →
      CountFits a (a_loop lo hi greedy asks) hi (next_count lo hi t.count)
  count_fits_next lo None greedy asks t place counts goes = omega arith
  count_fits_next lo (Some hi) greedy asks t place counts goes =
      let lt = before_last hi t.count (or_parts (has_stayed place t.since) (is_last (Some hi) t.count) goes).1 in
      omega (arith, lt)

  since_fits_next : (loop : Loop) (place : ℕ) (past : Bool) →
      SinceFits a loop (if loop.asks_moved && past then Some place else None) place
  since_fits_next loop place past =
      cond_both (loop.asks_moved && past) (Some place) None (λ o. SinceFits a loop o place)
      (λ z. (omega arith, (and_parts loop.asks_moved past z).0)) (λ z. tt)

  counter_steps : (loop : Loop) (e : Tree) (t : LoopCounter) (ts : List Task) (m : MatchState) → TasksFit a m.place (Iterates loop e t ∷ ts) →
      m.place ≤ length q.text → Means (Iterates loop e t ∷ ts) m (counter_step a q loop e t ts m)
  counter_steps loop e t ts m fit within =
      cond_both (is_over loop m.place t) (Tries true (ts ∷ []) m)
      (if nat_lt t.count loop.lo then Tries true (on ∷ []) m else tries_in_order a loop.greedy on ts m)
      (Means (Iterates loop e t ∷ ts) m)
      (λ over. one_means true ts (Iterates loop e t ∷ ts) m
      (sym (ap (flat_map (ways_at ts)) (counter_is_over a q e loop t m fits over) ∙ flat_map_one (ways_at ts) m))
      (fit.1, over_rank a e loop t ts m.place fits since over))
      (λ goes. cond_both (nat_lt t.count loop.lo) (Tries true (on ∷ []) m) (tries_in_order a loop.greedy on ts m)
      (Means (Iterates loop e t ∷ ts) m)
      (λ lt. one_means true on (Iterates loop e t ∷ ts) m
      (again e (Iterates loop e next) ts m easy ∙ ap (flat_map (ways_at ts)) (sym (counter_goes_on a q e loop t m fits goes lt)))
      (on_is_below goes))
      (λ past. choice_means loop.greedy on ts (Iterates loop e t ∷ ts) m
      (choice_ways loop.greedy on ts (Iterates loop e t) m (flat_map (counter_ways a q loop e next) (plain_ways a q e m))
      (again e (Iterates loop e next) ts m easy) (counter_may_go_on a q e loop t m easy fits counts within goes past))
      (on_is_below goes) (fit.1, past_rank a e loop t ts m.place past)))
    where
      next : LoopCounter
      next = next_counter loop m.place t

      on : List Task
      on = with_node a e (Jumps ∷ Iterates loop e next ∷ ts)

      easy : IsEasy a e
      easy = fit.0.0

      fits : LoopFits a loop e
      fits = fit.0.1

      counts : CountFits a loop loop.hi t.count
      counts = fit.0.2

      since : SinceFits a loop t.since m.place
      since = fit.0.3

      on_is_below : is_over loop m.place t ≡ false → IsBelow on (Iterates loop e t ∷ ts) m.place
      on_is_below goes = (
        node_fits a e easy m.place (Jumps ∷ Iterates loop e next ∷ ts) (
          tt,
          (
            (
              easy,
              fits,
              count_fits_next loop.lo loop.hi loop.greedy loop.asks_moved t m.place counts goes,
              since_fits_next loop m.place (not (nat_lt t.count loop.lo)),
            ),
            fit.1,
          ),
        ),
        counter_rank a e loop t ts m.place easy fits counts goes,
      )

  pub task_steps : (ts : List Task) (m : MatchState) → TasksFit a m.place ts → m.place ≤ length q.text →
      Means ts m (task_step a q ts m)
  task_steps [] m fit within = refl
  task_steps (Takes test ∷ ts) m fit within =
      takes_leads test ts m fit.1 (past_char q.text (passes q.text q.unicode test) m.place) refl
  task_steps (Asserts x ∷ ts) m fit within = asserts_leads x ts m fit.1 within
  task_steps (Opens g e ∷ ts) m fit within = opens_leads g e ts m fit.0 fit.1 within
  task_steps (Closes g from ∷ ts) m fit within =
      (sym (flat_map_one (ways_at ts) (with_span g (from, m.place) m)), fit.1, within, inr (refl, omega arith))
  task_steps (Chooses is_first e es ∷ ts) m fit within = chooses_leads is_first e es ts m fit.0.0 fit.0.1 fit.0.2 fit.1
  task_steps (May greedy e ∷ ts) m fit within = may_leads greedy e ts m fit.0 fit.1
  task_steps (Stars greedy e ∷ ts) m fit within = stars_step greedy e ts m fit.0.0 fit.0.1 fit.1 within
  task_steps (StartsPlus greedy e ∷ ts) m fit within = starts_plus_leads greedy e ts m fit.0.0 fit.0.1 fit.1 within
  task_steps (Counts loop e ∷ ts) m fit within = counts_step loop e ts m fit within
  task_steps (Iterates loop e t ∷ ts) m fit within = counter_steps loop e t ts m fit within
  task_steps (Jumps ∷ ts) m fit within = (sym (flat_map_one (ways_at ts) m), fit.1, within, inr (refl, omega arith))
  task_steps (Joins ∷ ts) m fit within =
      one_means true ts (Joins ∷ ts) m (sym (flat_map_one (ways_at ts) m)) (fit.1, omega arith)
