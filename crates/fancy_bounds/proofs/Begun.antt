-- Where the whole tree is easy, a run comes to its match within eight instructions and one backtrack for each start that
-- it begins.
use Rattle.std.proofs.Common.{◌≡◌, ◌≢◌, ⊎_elim, ℕ, zero, suc, ◌+◌, ◌*◌, ◌-◌, ◌<◌, ◌≤◌, Bool, true, false, ◌&&◌, ◌||◌, ◌==◌, not, nat_lt, if◌then◌else◌, List, [], ◌∷◌, length, filter, map, Option, Some, None, option_and_then, refl, sym, ap, ap₂, ◌∙◌, subst, arith, lt-ltb, le-leb}
use Rattle.std.specs.Prelude.{slice_get}
use Rattle.std.specs.Char.{len_utf8}
use Rattle.std.proofs.lemmas.Bool.{cases_lt, or_parts, true≢false}
use Rattle.std.proofs.lemmas.Option.{none-some}
use Rattle.std.proofs.lemmas.Str.{len_utf8_bounds}
use Rattle.regex_hir.specs.Text.{char_at}
use Rattle.regex_hir.proofs.TextLemmas.{char_at_past}
use Rattle.fancy_meaning.specs.Tree.{Tree}
use Rattle.fancy_meaning.specs.Places.{is_place, places_from}
use Rattle.fancy_meaning.specs.OpenCalls.{no_calls, free_calls}
use Rattle.fancy_meaning.specs.MatchState.{MatchState, Ways, fails, in_order, preferred, first_state}
use Rattle.fancy_meaning.specs.Ways.{Setting, ways_with, called}
use Rattle.fancy_meaning.specs.Options.{RunOptions}
use Rattle.fancy_meaning.specs.Hard.{is_hard, is_root_hard}
use Rattle.fancy_meaning.specs.Sizes.{size}
use Rattle.fancy_meaning.specs.Instr.{Instr, Jmp, SplitUnanchored}
use Rattle.fancy_meaning.specs.Batches.{batch}
use Rattle.fancy_meaning.specs.Code.{Code}
use Rattle.fancy_meaning.specs.Layout.{layout, program, called_code, written}
use Rattle.fancy_meaning.specs.Config.{Slots, Branch, Config, Outcome, Match, NoMatch, BacktrackLimitExceeded, StackOverflow, StepLimitExceeded, outcome_of, Next, Goes, Ends, push}
use Rattle.fancy_meaning.specs.Machine.{Task, fail_to, goes_from, step, step_at, exec, then_on, run, begin}
use Rattle.fancy_meaning.specs.Enumerates.{IsLimit}
use Rattle.fancy_meaning.specs.Premises.{Input, plan, IsAccepted, IsFit}
use Rattle.fancy_meaning.specs.Theorems.{EasyRun, tried, outcome}
use Rattle.fancy_meaning.specs.Answer.{Search, search_of, chosen, starts, is_admitted, attempt, answer}
use Rattle.fancy_meaning.specs.Numbers.{usize_max}
use Rattle.fancy_composed.proofs.Continuations.{config}
use Rattle.fancy_composed.proofs.Parts.{place_within}
use Rattle.fancy_composed.proofs.Places.{char_stands, places_on, places_at_end}
use Rattle.fancy_composed.proofs.Programs.{Searching, search_stands}
use Rattle.fancy_composed.proofs.Programs as programs
use Rattle.fancy_laws.proofs.Characters.{char_ends_at_place}
use Rattle.fancy_laws.proofs.Every.{every_one}
use Rattle.fancy_laws.proofs.WaysOf.{every_place_from}
use Rattle.fancy_headline.proofs.Answered.{easy, headline}
use Rattle.fancy_headline.proofs.Bounds.{branch_bound, backtrack_bound, instruction_bound}
use Rattle.fancy_limits.proofs.Steps.{settles}
use Rattle.fancy_starts.specs.Matches.{Found, match_of}
use Rattle.fancy_starts.proofs.Firsts.{first_of, next_of, found_there}
use Rattle.fancy_starts.proofs.Matches.{numbers_of, answer_is}
use Rattle.fancy_bounds.specs.StartsBegun.{up_to, begun_by, BacktracksByStartsBegun, InstructionsByStartsBegun}
use Rattle.fancy_bounds.proofs.EasyWays.{same_easy_ways}
use Rattle.fancy_bounds.proofs.Settled.{Other, other_options, other_task, Ended, matched, held, failed, tally, fallen, ends_in, IsAllowed, Settles, AtMostOne, attempt_settles}
use Rattle.fancy_bounds.proofs.Uniform.{batch_is_one}

-- an outcome that is none of the limits
no_limit : (r : Outcome) → IsLimit r → r ≢ BacktrackLimitExceeded → r ≢ StackOverflow → r ≢ StepLimitExceeded → ⊥
no_limit (Match numbers) l b s n = l
no_limit NoMatch l b s n = l
no_limit BacktrackLimitExceeded l b s n = b refl
no_limit StackOverflow l b s n = s refl
no_limit StepLimitExceeded l b s n = n refl

module _ (i : Input) (text : List ℕ) (o : RunOptions) (accepted : IsAccepted i (length (program (plan i) (easy i)).body))
    (fit : IsFit i text o) (all_easy : is_root_hard (plan i).analysis ≡ false)
    (any_start : (plan i).anchored ≡ false) (many : o.anchored ≡ false) where
  abbrev t : Task
  t = record { program = program (plan i) (easy i); text = text; options = o }

  abbrev tree : Tree
  tree = (plan i).analysis.tree

  abbrev q : Search
  q = search_of (plan i) text o

  -- ---- the tree is easy

  parts : (is_hard (plan i).analysis tree ≡ false) × (((plan i).analysis.end_text && (size tree tree).least == 0) ≡ false)
  parts = or_parts (is_hard (plan i).analysis tree) ((plan i).analysis.end_text && (size tree tree).least == 0) all_easy

  abbrev calls : ℕ → Bool → Code
  calls = called_code (plan i) (easy i) (free_calls tree no_calls) no_calls

  root_is : programs.root (plan i) (easy i) ≡ batch (plan i).unicode (tree ∷ [])
  root_is =
      ap₂
      (λ u v.
      if (not u && not v) && true then batch (plan i).unicode (tree ∷ []) else written (plan i) (easy i) calls tree true false)
      parts.0 parts.1

  steady : (x : Other) (ix : ℕ) →
      preferred (in_order (map (ways_with (record (q.setting) { pos = x.pos }) (λ g. fails)) (tree ∷ []))) (first_state ix)
      ≡ preferred (in_order (map (ways_with q.setting (λ g. fails)) (tree ∷ []))) (first_state ix)
  steady x ix =
      ap (λ w. preferred (in_order (w ∷ [])) (first_state ix))
      (sym (same_easy_ways (plan i).analysis q.setting x.pos (λ g. fails) (λ g. fails) tree parts.0))

  abbrev no_slots : Slots
  no_slots = λ k. usize_max

  at : Searching (plan i) (easy i) accepted.implicit_group_0
  at = search_stands (plan i) (easy i) accepted.implicit_group_0 any_start

  settled : (start : ℕ) → Settles t start 5 3 start no_slots
  settled start =
      attempt_settles t start 3 (plan i).end_text no_slots
      (subst (λ c. AtMostOne t start (c 4 (programs.fresh (plan i) (easy i))).instrs) (sym root_is)
      (batch_is_one t start (plan i).unicode (tree ∷ []) 4 (programs.fresh (plan i) (easy i)) steady))
      (at.attempt).start (at.attempt).tree (at.attempt).end (at.attempt).ends

  -- ---- an attempt succeeds where it does alone

  -- the attempt from one start alone, with enough instructions
  abbrev alone : ℕ → Other
  alone start = record { pos = start; anchored = true; backtracks = 1; steps = suc ((settled start).steps + 8) }

  abbrev alone_options : ℕ → RunOptions
  alone_options start = other_options o (alone start)

  abbrev alone_search : ℕ → Search
  alone_search start = search_of (plan i) text (alone_options start)

  abbrev call_in : Setting → ℕ → Ways
  call_in setting = called setting tree (free_calls tree no_calls) no_calls

  same_attempt : (start : ℕ) → attempt (alone_search start) start ≡ attempt q start
  same_attempt start =
      ap (λ (w : Ways). chosen o.leftmost_longest (filter (is_admitted q start) (w (first_state start))))
      (sym (same_easy_ways (plan i).analysis q.setting start (call_in q.setting) (call_in (alone_search start).setting) tree parts.0))

  alone_fits : (start : ℕ) → is_place text start ≡ true → IsFit i text (alone_options start)
  alone_fits start place =
      record { is_text = fit.is_text; pos = place; not_empty = fit.not_empty; longest = fit.longest }

  one_start : (start : ℕ) → starts (alone_search start) ≡ start ∷ []
  one_start start = ap (λ v. if v || true then start ∷ [] else places_from text start) any_start

  alone_matches : (start : ℕ) (s : MatchState) → attempt q start ≡ Some s →
      answer (alone_search start) ≡ numbers_of (alone_search start) (Some (start, s))
  alone_matches start s e =
      answer_is (alone_search start)
      ∙ ap (numbers_of (alone_search start))
      (ap (first_of (attempt (alone_search start))) (one_start start)
      ∙ ap (λ r. next_of (attempt (alone_search start)) r start []) (same_attempt start ∙ e))

  alone_runs : (start : ℕ) → is_place text start ≡ true →
      outcome i text (alone_options start) ≡ outcome_of (answer (alone_search start))
  unfolding layout
  alone_runs start place =
      let known : EasyRun i text (alone_options start) = (accepted, alone_fits start place, all_easy) in
      let one : tried i text (alone_options start) ≡ 1 = ap length (one_start start) in
      ⊎_elim
      (λ limit. absurd (no_limit (outcome i text (alone_options start)) limit
      (backtrack_bound i text (alone_options start) known (omega (arith, one)))
      (branch_bound i text (alone_options start) known).1
      (instruction_bound i text (alone_options start) known (omega (arith, one)))))
      (λ same. same)
      (headline i text (alone_options start) accepted (alone_fits start place))

  -- what the run of the attempt alone comes to
  alone_settles : (start : ℕ) →
      outcome i text (alone_options start)
      ≡ then_on (other_task t (alone start)) (exec (other_task t (alone start)) 8)
      (ends_in (other_task t (alone start)) [] start 0 (settled start).ended)
  unfolding layout run
  alone_settles start =
      let u = other_task t (alone start) in
      ap (λ x. then_on u (exec u ((settled start).steps + 8)) (step_at u x (begin u))) at.split
      ∙ (settled start).by (alone start) [] 0 8

  not_failed : (start : ℕ) (s : MatchState) → is_place text start ≡ true → attempt q start ≡ Some s →
      (settled start).ended ≡ failed → ⊥
  not_failed start s place e is =
      let u = other_task t (alone start) in
      match_is_some _
      (sym (ap outcome_of (alone_matches start s e)) ∙ sym (alone_runs start place) ∙ alone_settles start
      ∙ ap (λ x. then_on u (exec u 8) (ends_in u [] start 0 x)) is)
    where
      match_is_some : (numbers : List ℕ) → Match numbers ≡ NoMatch → ⊥
      match_is_some numbers h = cc

  -- ---- what is left of a run

  -- no limit is passed where there may be so many backtracks
  abbrev Fine : ℕ → Outcome → Type 0
  Fine need r = (r ≢ StepLimitExceeded) × (need ≤ o.backtrack_limit → r ≢ BacktrackLimitExceeded)

  abbrev AllFine : ℕ → ℕ → Next → Type 0
  AllFine need most next = (n : ℕ) → most ≤ n → Fine need (then_on t (exec t n) next)

  fine_next : (need most : ℕ) (a b : Next) → a ≡ b → AllFine need most b → AllFine need most a
  fine_next need most a b e h = subst (AllFine need most) (sym e) h

  fine_more : (need most more : ℕ) (next : Next) → most ≤ more → AllFine need most next → AllFine need more next
  fine_more need most more next le h n l = h n (omega (arith, le, l))

  match_is_fine : (need most : ℕ) (numbers : List ℕ) → AllFine need most (Ends (Match numbers))
  match_is_fine need most numbers n le = (λ e. cc, λ l e. cc)

  step_is_fine : (need most : ℕ) (x : Instr) (c : Config) → slice_get (t.program).body c.pc ≡ Some x →
      AllFine need most (step t x c) → AllFine need (suc most) (Goes c)
  step_is_fine need most x c stands h zero le = absurd (omega (arith, le))
  step_is_fine need most x c stands h (suc n) le =
      subst (Fine need) (sym (ap (λ y. then_on t (exec t n) (step_at t y c)) stands)) (h n (omega (arith, le)))

  abbrev again : ℕ → Branch
  again start = record { pc = 1; ix = start; slots = no_slots; marks = [] }

  abbrev first : ℕ → ℕ → ℕ → Config
  first start before count = config 0 start no_slots [] [] before (tally count None)

  abbrev resumed : ℕ → ℕ → Option (List ℕ) → Config
  resumed start count longest = config 1 start no_slots [] [] start (tally (count + 1) longest)

  abbrev itself : Other
  itself = record { pos = o.pos; anchored = o.anchored; backtracks = o.backtrack_limit; steps = o.step_limit }

  -- an attempt, from how it ends
  attempt_is_fine : (need most start count : ℕ) → AllFine need most (ends_in t (again start ∷ []) start count (settled start).ended) →
      AllFine need (5 + most) (Goes (config 3 start no_slots [] (again start ∷ []) start (tally count None)))
  attempt_is_fine need most start count h n le =
      let few = (settled start).few in
      let rest : ℕ = n - (settled start).steps in
      let all : n ≡ (settled start).steps + rest = omega (arith, few, le) in
      subst (Fine need)
      (sym (ap (λ k. exec t k (config 3 start no_slots [] (again start ∷ []) start (tally count None))) all
      ∙ (settled start).by itself (again start ∷ []) count rest))
      (h rest (omega (arith, few, le)))

  -- one start
  begun_is_fine : (need most start before count : ℕ) →
      AllFine need most (ends_in t (again start ∷ []) start count (settled start).ended) →
      AllFine need (6 + most) (Goes (first start before count))
  begun_is_fine need most start before count h =
      let d : Config = config 3 start no_slots [] [] start (tally count None) in
      let c : Config = first start before count in
      fine_more need (suc (5 + most)) (6 + most) (Goes c) (omega arith)
      (step_is_fine need (5 + most) (SplitUnanchored 3 1) c at.split
      (subst (λ v. AllFine need (5 + most) (if v then Goes d else push 1 c d)) (sym many)
      (attempt_is_fine need most start count h)))

  -- the branch of the next start
  failure_is_fine : (need most start count : ℕ) (longest : Option (List ℕ)) → count + 1 ≤ need →
      AllFine need most (Goes (resumed start count longest)) →
      AllFine need most (fail_to t (again start ∷ []) (fallen (again start ∷ []) start count longest))
  failure_is_fine need most start count longest le h = by_test (nat_lt count o.backtrack_limit) refl
    where
      by_test : (v : Bool) → nat_lt count o.backtrack_limit ≡ v →
          AllFine need most (if v then Goes (resumed start count longest) else Ends BacktrackLimitExceeded)
      by_test true e = h
      by_test false e =
          λ n l. (λ r. cc, λ enough r. true≢false (sym (lt-ltb count o.backtrack_limit (omega (arith, enough, le))) ∙ e))

  -- past the character that stands there
  abbrev past : ℕ → Option ℕ → Option ℕ
  past start char = option_and_then (λ c. Some (start + len_utf8 c)) char

  next_start_is_fine : (need most start count c : ℕ) (longest : Option (List ℕ)) → char_at text start ≡ Some c →
      AllFine need most (Goes (config 0 (start + len_utf8 c) no_slots [] [] start (tally (count + 1) longest))) →
      AllFine need (suc (suc most)) (Goes (resumed start count longest))
  next_start_is_fine need most start count c longest stands h =
      step_is_fine need (suc most) Instr.Any (resumed start count longest) at.any
      (subst (λ v. AllFine need (suc most) (goes_from t (resumed start count longest) (past start v))) (sym stands)
      (step_is_fine need most (Jmp 0) (config 2 (start + len_utf8 c) no_slots [] [] start (tally (count + 1) longest)) at.back h))

  -- a match that is held is answered at the next start, or at the end of the text
  held_is_fine : (need start count : ℕ) (numbers : List ℕ) → count + 1 ≤ need → is_place text start ≡ true →
      AllFine need 3 (ends_in t (again start ∷ []) start count (held numbers))
  held_is_fine need start count numbers le place =
      failure_is_fine need 3 start count (Some numbers) le
      (⊎_elim {C = AllFine need 3 (Goes (resumed start count (Some numbers)))}
      (λ lt.
      let d = char_stands text fit.is_text.utf8 start place lt in
      let j : ℕ = start + len_utf8 d.0 in
      next_start_is_fine need 1 start count d.0 (Some numbers) d.1
      (step_is_fine need 0 (SplitUnanchored 3 1) (config 0 j no_slots [] [] start (tally (count + 1) (Some numbers))) at.split
      (match_is_fine need 0 numbers)))
      (λ ge.
      step_is_fine need 2 Instr.Any (resumed start count (Some numbers)) at.any
      (subst (λ v. AllFine need 2 (goes_from t (resumed start count (Some numbers)) (past start v))) (sym (char_at_past text start ge))
      (match_is_fine need 2 numbers)))
      (cases_lt start (length text)))

  -- ---- all starts up to the match

  abbrev extra : ℕ
  extra = if o.leftmost_longest then 1 else 0

  one_extra : o.leftmost_longest ≡ true → extra ≡ 1
  one_extra e = ap (λ v. if v then 1 else 0) e

  module _ (m : Found) where
    abbrev count_of : List ℕ → ℕ
    count_of is = length (up_to (Some m) is)

    abbrev StartsFine : ℕ → ℕ → ℕ → List ℕ → Type 0
    StartsFine start before count is = AllFine (count + count_of is) (8 * count_of is + extra) (Goes (first start before count))

    -- one start of those, from what comes after it
    start_is_fine : (start before count : ℕ) (is : List ℕ) → is_place text start ≡ true → start ≤ m.0 →
        (attempt q start ≡ None → AllFine (count + suc (count_of is)) (suc (suc (8 * count_of is + extra))) (Goes (resumed start count None))) →
        StartsFine start before count (start ∷ is)
    start_is_fine start before count is place le next =
        subst (λ k. AllFine (count + k) (8 * k + extra) (Goes (first start before count))) (sym more)
        (by_end (settled start).ended refl (settled start).allowed)
      where
        more : count_of (start ∷ is) ≡ suc (count_of is)
        more = ap (λ v. length (if v then start ∷ up_to (Some m) is else up_to (Some m) is)) (le-leb start m.0 le)

        k : ℕ
        k = count_of is

        Goal : Type 0
        Goal = AllFine (count + suc k) (8 * suc k + extra) (Goes (first start before count))

        from_end : (most : ℕ) → 6 + most ≤ 8 * suc k + extra → (x : Ended) → (settled start).ended ≡ x →
            AllFine (count + suc k) most (ends_in t (again start ∷ []) start count x) → Goal
        from_end most enough x is h =
            fine_more (count + suc k) (6 + most) (8 * suc k + extra) (Goes (first start before count)) enough
            (begun_is_fine (count + suc k) most start before count
            (fine_next (count + suc k) most _ _ (ap (ends_in t (again start ∷ []) start count) is) h))

        on_failure : (r : Option MatchState) → attempt q start ≡ r → (settled start).ended ≡ failed → Goal
        on_failure None e is =
            from_end (suc (suc (8 * k + extra))) (omega arith) failed is
            (failure_is_fine (count + suc k) (suc (suc (8 * k + extra))) start count None (omega arith) (next e))
        on_failure (Some s) e is = absurd (not_failed start s place e is)

        by_end : (x : Ended) → (settled start).ended ≡ x → IsAllowed o.leftmost_longest x → Goal
        by_end (matched numbers) is ok =
            from_end 0 (omega arith) (matched numbers) is (match_is_fine (count + suc k) 0 numbers)
        by_end (held numbers) is ok =
            let one = one_extra ok in
            from_end 3 (omega (arith, one)) (held numbers) is
            (held_is_fine (count + suc k) start count numbers (omega arith) place)
        by_end failed is ok = on_failure (attempt q start) refl is

    -- what is found after a start that has none
    found_later : (start : ℕ) (is : List ℕ) → first_of (attempt q) (start ∷ is) ≡ Some m → attempt q start ≡ None →
        first_of (attempt q) is ≡ Some m
    found_later start is e none = sym (ap (λ r. next_of (attempt q) r start is) none) ∙ e

    starts_are_fine : (fuel start before count : ℕ) → is_place text start ≡ true → length text < start + fuel →
        first_of (attempt q) (places_from text start) ≡ Some m → StartsFine start before count (places_from text start)
    starts_are_fine zero start before count place left e =
        let within = place_within text start place in absurd (omega (arith, within, left))
    starts_are_fine (suc fuel) start before count place left e =
        let le : start ≤ m.0 =
        (found_there (attempt q) {P = λ j. (start ≤ j) × (is_place text j ≡ true)} m (places_from text start) (every_place_from text start) e).0.0 in
        ⊎_elim {C = StartsFine start before count (places_from text start)}
        (λ lt.
        let d = char_stands text fit.is_text.utf8 start place lt in
        let j : ℕ = start + len_utf8 d.0 in
        let some = len_utf8_bounds d.0 in
        let on = places_on text fit.is_text.utf8 start d.0 place d.1 in
        subst (StartsFine start before count) (sym on)
        (start_is_fine start before count (places_from text j) place le
        (λ none.
        next_start_is_fine (count + suc (count_of (places_from text j))) (8 * count_of (places_from text j) + extra) start count d.0 None d.1
        (one_more count (count_of (places_from text j)) j
        (starts_are_fine fuel j start (count + 1) (char_ends_at_place text fit.is_text.utf8 start d.0 place d.1)
        (omega (arith, some, left))
        (found_later start (places_from text j) (sym (ap (first_of (attempt q)) on) ∙ e) none))))))
        (λ ge.
        let within = place_within text start place in
        let last = places_at_end text start (omega (arith, within, ge)) place in
        subst (StartsFine start before count) (sym last)
        (start_is_fine start before count [] place le
        (λ none. absurd (none-some m (found_later start [] (sym (ap (first_of (attempt q)) last) ∙ e) none)))))
        (cases_lt start (length text))
      where
        one_more : (count k j : ℕ) → AllFine (count + 1 + k) (8 * k + extra) (Goes (first j start (count + 1))) →
            AllFine (count + suc k) (8 * k + extra) (Goes (first j start (count + 1)))
        one_more count k j h =
            let same : count + 1 + k ≡ count + suc k = omega arith in
            subst (λ need. AllFine need (8 * k + extra) (Goes (first j start (count + 1)))) same h

    run_is_fine : match_of q ≡ Some m → StartsFine o.pos o.pos 0 (starts q)
    run_is_fine e =
        let all : starts q ≡ places_from text o.pos =
        ap₂ (λ x y. if x || y then o.pos ∷ [] else places_from text o.pos) any_start many in
        subst (StartsFine o.pos o.pos 0) (sym all)
        (starts_are_fine (suc (length text)) o.pos o.pos 0 fit.pos (omega arith) (sym (ap (first_of (attempt q)) all) ∙ e))

    pub enough_steps : match_of q ≡ Some m → 8 * count_of (starts q) + extra ≤ o.step_limit → run t ≢ StepLimitExceeded
    unfolding run
    enough_steps e le = (run_is_fine e o.step_limit le).0

    pub enough_backtracks : match_of q ≡ Some m → count_of (starts q) ≤ o.backtrack_limit → run t ≢ BacktrackLimitExceeded
    unfolding run
    enough_backtracks e le passed =
        let most : ℕ = 8 * count_of (starts q) + extra in
        ⊎_elim
        (λ (stopped : exec t o.step_limit (begin t) ≡ StepLimitExceeded). other_limit (sym passed ∙ stopped))
        (λ same. (run_is_fine e (o.step_limit + most) (omega arith)).1 (omega (arith, le)) (same ∙ passed))
        (settles t o.step_limit most (begin t))
      where
        other_limit : BacktrackLimitExceeded ≡ StepLimitExceeded → ⊥
        other_limit h = cc

-- ---- all runs

-- each start that may be tried is begun, or there is a match and every start may be tried
data Begins (i : Input) (text : List ℕ) (o : RunOptions) : Type 0 where
  all : begun_by i text o ≡ tried i text o → Begins i text o
  until : (m : Found) → match_of (search_of (plan i) text o) ≡ Some m → (plan i).anchored ≡ false → o.anchored ≡ false → Begins i text o

begins : (i : Input) (text : List ℕ) (o : RunOptions) → Begins i text o
begins i text o = by_match (match_of q) refl
  where
    q : Search
    q = search_of (plan i) text o

    one_start : (m : Found) → match_of q ≡ Some m → starts q ≡ o.pos ∷ [] → begun_by i text o ≡ tried i text o
    one_start m e one =
        let there : m.0 ≡ o.pos =
        (found_there (attempt q) {P = λ j. j ≡ o.pos} m (o.pos ∷ []) (every_one refl) (sym (ap (first_of (attempt q)) one) ∙ e)).0 in
        ap (λ r. length (up_to r (starts q))) e
        ∙ ap (λ l. length (up_to (Some m) l)) one
        ∙ ap (λ v. length (if v then o.pos ∷ [] else [])) (le-leb o.pos m.0 (omega (arith, there)))
        ∙ sym (ap length one)

    by_options : (m : Found) → match_of q ≡ Some m → (v u : Bool) → (plan i).anchored ≡ v → o.anchored ≡ u → Begins i text o
    by_options m e true u is_v is_u =
        all (one_start m e (ap (λ x. if x || o.anchored then o.pos ∷ [] else places_from text o.pos) is_v))
    by_options m e false true is_v is_u =
        all (one_start m e (ap₂ (λ x y. if x || y then o.pos ∷ [] else places_from text o.pos) is_v is_u))
    by_options m e false false is_v is_u = until m e is_v is_u

    by_match : (r : Option Found) → match_of q ≡ r → Begins i text o
    by_match None e = all (ap (λ r. length (up_to r (starts q))) e)
    by_match (Some m) e = by_options m e (plan i).anchored o.anchored refl refl

pub backtracks_by_starts : BacktracksByStartsBegun
unfolding layout
backtracks_by_starts i text o known le = by_starts (begins i text o)
  where
    by_starts : Begins i text o → outcome i text o ≢ BacktrackLimitExceeded
    by_starts (all same) = backtrack_bound i text o known (omega (arith, same, le))
    by_starts (until m e any_start many) =
        let count = ap (λ r. length (up_to r (starts (search_of (plan i) text o)))) e in
        enough_backtracks i text o known.0 known.1 known.2 any_start many m e (omega (arith, count, le))

pub instructions_by_starts : InstructionsByStartsBegun
unfolding layout
instructions_by_starts i text o known le = by_starts (begins i text o)
  where
    by_starts : Begins i text o → outcome i text o ≢ StepLimitExceeded
    by_starts (all same) = instruction_bound i text o known (omega (arith, same, le))
    by_starts (until m e any_start many) =
        let count = ap (λ r. length (up_to r (starts (search_of (plan i) text o)))) e in
        enough_steps i text o known.0 known.1 known.2 any_start many m e (omega (arith, count, le))
