-- The search for the first start that has an admitted way.
use Rattle.std.proofs.Common.{◌≡◌, ◌≢◌, ⊎_elim, ℕ, zero, suc, ◌+◌, ◌*◌, ◌<◌, ◌≤◌, ◌-◌, Bool, true, false, not, ◌&&◌, ◌||◌, ◌==◌, nat_lt, nat_le, Contains, eqb-true, if◌then◌else◌, cond, List, [], ◌∷◌, length, filter, filter_map, Option, Some, None, option_and_then, option_map, refl, sym, ap, ap₂, ◌∙◌, arith, true≢false}
use Rattle.std.specs.Prelude.{slice_get}
use Rattle.std.specs.List.{cons_option, list_any}
use Rattle.std.proofs.lemmas.Bool.{cases_lt, and_parts, not-true}
use Rattle.std.proofs.lemmas.Str.{len_utf8_bounds}
use Rattle.std.specs.Char.{len_utf8}
use Rattle.regex_hir.specs.Text.{char_at}
use Rattle.regex_hir.proofs.TextLemmas.{char_at_past}
use Rattle.fancy_meaning.specs.Tree.{Tree}
use Rattle.fancy_meaning.specs.Nodes.{nodes, group_count, is_keep_out}
use Rattle.fancy_meaning.specs.Places.{is_place, places_from, range_from, chars_between}
use Rattle.fancy_meaning.specs.MatchState.{MatchState, Ways, put, first_state}
use Rattle.fancy_meaning.specs.Answer.{Search, search_of, as_numbers, is_admitted, reported, chosen, ways_from, attempt, starts, answer}
use Rattle.fancy_meaning.specs.Numbers.{usize_max}
use Rattle.fancy_meaning.specs.Sizes.{size}
use Rattle.fancy_meaning.specs.Options.{RunOptions}
use Rattle.fancy_meaning.specs.Instr.{Instr, Save, Jmp, SplitUnanchored}
use Rattle.fancy_meaning.specs.Layout.{program}
use Rattle.fancy_meaning.specs.Config.{Slots, Branch, Config, Outcome, NoMatch, BacktrackLimitExceeded, outcome_of, Goes, Ends, push}
use Rattle.fancy_meaning.specs.Machine.{Task, exec, fail_to, then_on, goes_from, is_search, begin, run}
use Rattle.fancy_meaning.specs.Premises.{Input, plan, IsAccepted, IsFit, Analysed}
use Rattle.fancy_meaning.specs.Theorems.{IsProgramFor, Answers, HasEnough}
use Rattle.fancy_composed.proofs.Continuations.{Continuation, Meets, limit, same, Tally, tally_of, once_more, To, to_now, to_same, to_eq, to_trans, after, Ground, config, task_step, step_at_pc}
use Rattle.fancy_composed.proofs.Runs.{limit_or_answer, enough_steps}
use Rattle.fancy_meaning.specs.Marks.{has_marked_continue}
use Rattle.fancy_composed.proofs.Alike.{Among, every_among, or_first}
use Rattle.fancy_composed.proofs.Parts.{Simulates, place_within, flag, flag_is, put_same, put_other, Stands}
use Rattle.fancy_composed.proofs.Places.{char_stands, places_on, places_at_end}
use Rattle.fancy_composed.proofs.Tests.{MayStop}
use Rattle.fancy_composed.proofs.Accepted.{ground}
use Rattle.fancy_composed.proofs.Composed.{first_slot}
use Rattle.fancy_composed.proofs.Attempts.{or_else, find_is, found}
use Rattle.fancy_composed.proofs.Programs.{Attempt, anchored_attempt, Searching, search_stands}
use Rattle.fancy_composed.proofs.Programs as programs
use Rattle.fancy_laws.proofs.Characters.{char_ends_at_place}
use Rattle.fancy_laws.proofs.SizedWays.{first_is_sound}
use Rattle.fancy_laws.proofs.Continues.{continued_ways}
use Rattle.fancy_laws.proofs.Chosen.{same_chosen}
use Rattle.fancy_laws.proofs.LongestWays.{way_is_small, none_is_longer}

-- ---- lists

-- the first start that has one
first_of : (ℕ → Option MatchState) → List ℕ → Option MatchState
first_of f [] = None
first_of f (i ∷ is) = or_first (f i) (first_of f is)

first_is : (f : ℕ → Option MatchState) (is : List ℕ) → slice_get (filter_map f is) 0 ≡ first_of f is
unfolding first_of
first_is f [] = refl
first_is f (i ∷ is) = by_first (f i) (first_is f is)
  where
    by_first : (o : Option MatchState) → slice_get (filter_map f is) 0 ≡ first_of f is →
        slice_get (cons_option o (filter_map f is)) 0 ≡ or_first o (first_of f is)
    by_first None rest = rest
    by_first (Some s) rest = refl

-- a failure takes the last branch
resumes : (t : Task) (b : Branch) (bs : List Branch) (c : Config) →
    To (after t (fail_to t (b ∷ bs) c)) (λ n. exec t n (config b.pc b.ix b.slots b.marks bs c.start (once_more (tally_of c))))
resumes t b bs c =
    to_now
    (λ n.
    elim (nat_lt c.backtracks t.backtrack_limit) as
    (λ v.
    Meets
    (then_on t (exec t n)
    (if v then Goes (config b.pc b.ix b.slots b.marks bs c.start (once_more (tally_of c))) else Ends BacktrackLimitExceeded))
    (exec t n (config b.pc b.ix b.slots b.marks bs c.start (once_more (tally_of c))))) [
      | true ↦ same refl
      | false ↦ limit tt
    ])

-- nothing is held yet
abbrev pub none_held : ℕ → Tally
none_held count = record { backtracks = count; longest = None }

-- what is held is answered, and else nothing matched
held_or_none : (other : Continuation) (longest : Option (List ℕ)) → To (λ n. NoMatch) other →
    To (λ n. outcome_of longest) (or_else longest other)
held_or_none other None t = t
held_or_none other (Some numbers) t = to_same

none_chosen : (longest : Bool) → chosen longest [] ≡ None
none_chosen true = refl
none_chosen false = refl

-- the program, where `easy` tells which nodes are left to a plain search
module _ (i : Input) (text : List ℕ) (o : RunOptions) (easy : Tree → Bool) (accepted : IsAccepted i (length (program (plan i) easy).body))
    (fit : IsFit i text o) where
  abbrev pub tree : Tree
  tree = (plan i).analysis.tree

  abbrev pub task : Task
  task = record { program = program (plan i) easy; text = text; options = o }

  abbrev pub q : Search
  q = search_of (plan i) text o

  abbrev groups : ℕ
  groups = group_count tree

  pub fits : IsProgramFor (plan i) (program (plan i) easy)
  fits = record { total_groups = refl; implicit_group_0 = accepted.implicit_group_0; end_text = refl; unicode = refl }

  abbrev no_slots : Slots
  no_slots = λ k. usize_max

  -- the tree with the premises that its laws ask for
  abbrev analysed : Analysed
  analysed = record { parsed = i.parsed; options = i.analysis; well_formed = accepted.well_formed }

  -- what falling leads to where a marked `\G` gives up
  abbrev Stops : List Branch → Continuation → Type 0
  Stops base other =
      has_marked_continue tree tree ≡ true → is_search (slice_get (program (plan i) easy).body 0) ≡ true →
      o.anchored ≡ false → (1 ≤ length base) × (length base ≡ 1 → To (λ n. NoMatch) other)

  -- what falling into these branches leads to, where nothing is held
  abbrev Falls : ℕ → List Branch → Continuation → Type 0
  Falls start base other = (count : Tally) →
      To (after task (fail_to task base (config 0 0 (λ s. 0) [] [] start count))) (or_else count.longest other)

  -- The code of the root enumerates a list of ways from which the same is chosen as from all ways.
  abbrev pub RootEnumerates : Type 0
  RootEnumerates = (start : ℕ) (base : List Branch) (other : Continuation)
      (falls : Falls start base other) → is_place text start ≡ true →
      let w = ground i (length (program (plan i) easy).body) accepted task fit.is_text fits start base
      (λ count. or_else count.longest other) falls in
      (has_marked_continue tree tree ≡ true → MayStop w) →
      (handed : Ways) × Simulates w (programs.root (plan i) easy) handed
      × (chosen q.leftmost_longest (filter (is_admitted q start) (handed (first_state start))) ≡ attempt q start)
      × ((s : MatchState) → Among s (handed (first_state start)) → Contains (ways_from q start) s)

  module _ (roots : RootEnumerates) where
    -- one start, and what comes where it has no admitted way
    attempted : (a start : ℕ) → Attempt (plan i) easy a → is_place text start ≡ true → (base : List Branch) (other : Continuation) →
        Falls start base other → Stops base other →
        (count : ℕ) → To (λ n. exec task n (config a start no_slots [] base start (none_held count)))
        (or_else (option_map (as_numbers groups) (attempt q start)) other)
    attempted a start at place base other falls stops count =
        let w : Ground =
        ground i (length (program (plan i) easy).body) accepted task fit.is_text fits start base
        (λ k. or_else k.longest other) falls in
        let stop : has_marked_continue tree tree ≡ true → MayStop w =
        λ b search anchored. let s = stops b search anchored in (s.0, λ one k. held_or_none other k.longest (s.1 one)) in
        let root = roots start base other falls place stop in
        let simulates = root.1 in
        let fresh = programs.fresh (plan i) easy in
        let laid = programs.root (plan i) easy (a + 1) fresh in
        let m = a + 1 + length laid.instrs in
        let part = simulates.part (a + 1) m fresh refl (omega (arith, first_slot w accepted.implicit_group_0)) at.tree in
        let slots : Slots = put 0 start no_slots in
        let s = first_state start in
        let so = first_is_sound q.setting tree start place in
        let st : Stands w s slots = record {
          kept = put_same no_slots 0 0 start refl;
          starts = λ g lo hi. put_other no_slots 0 (2 * g) start (λ x. omega arith);
          ends = λ g lo hi. put_other no_slots 0 (2 * g + 1) start (λ x. omega arith);
          flagged = λ e. put_other no_slots 0 (flag w) start (λ x. omega (arith, flag_is w, x));
        } in
        let alike = simulates.alike s so in
        let there : (u : MatchState) → Among u (simulates.handed s) → Contains (ways_from q start) u =
        λ u among. root.3 u (alike.members u among) in
        let same : (p : MatchState → Bool) → slice_get (filter p (simulates.handed s)) 0 ≡ slice_get (filter p (root.0 s)) 0 =
        λ p. find_is p (simulates.handed s) ∙ alike.tests p ∙ sym (find_is p (root.0 s)) in
        to_trans (step_at_pc w (Save 0) a start no_slots [] [] (none_held count) at.start)
        (to_trans
        (found w m fresh laid.fresh slots other
        (every_among (simulates.handed s) (λ u among. way_is_small q.setting analysed fit.is_text start place u (there u among)))
        (λ u t among among' top. tops u t (there u among) (there t among') top)
        at.end at.ends (λ k. to_same) (part.enumerates s slots [] [] (none_held count) so st))
        (to_eq
        (λ n.
        ap (λ x. or_else (option_map (as_numbers groups) x) other n)
        (same_chosen o.leftmost_longest (is_admitted q start) (simulates.handed s) (root.0 s) (same (is_admitted q start))
        (λ on k. same (λ u. is_admitted q start u && nat_le k (reported u))) ∙ root.2))))
      where
        tops : (u t : MatchState) → Contains (ways_from q start) u → Contains (ways_from q start) t →
            (not (list_any is_keep_out (nodes tree)) && chars_between text start u.place == (size tree tree).most) ≡ true →
            reported t ≤ reported u
        tops u t cu ct top =
            let parts =
            and_parts (not (list_any is_keep_out (nodes tree))) (chars_between text start u.place == (size tree tree).most) top in
            none_is_longer q.setting analysed fit.is_text start place (not-true (list_any is_keep_out (nodes tree)) parts.0) u t cu ct
            (eqb-true (chars_between text start u.place) (size tree tree).most parts.1)

    -- ---- no start after the first one, where the tree begins with a `\G`

    no_attempt : has_marked_continue tree tree ≡ true → (start : ℕ) → is_place text start ≡ true → start ≢ o.pos →
        attempt q start ≡ None
    no_attempt b start place ne =
        ap (λ hs. chosen q.leftmost_longest (filter (is_admitted q start) hs)) (continued_ways q analysed start refl fit.is_text place b ne)
        ∙ none_chosen q.leftmost_longest

    none_in : has_marked_continue tree tree ≡ true → (n k : ℕ) → o.pos < k →
        first_of (attempt q) (filter (is_place text) (range_from k n)) ≡ None
    unfolding first_of
    none_in b zero k lt = refl
    none_in b (suc n) k lt = by_place (is_place text k) refl (none_in b n (suc k) (omega arith))
      where
        by_place : (v : Bool) → is_place text k ≡ v →
            first_of (attempt q) (filter (is_place text) (range_from (suc k) n)) ≡ None → first_of (attempt q)
            (cond v (k ∷ filter (is_place text) (range_from (suc k) n)) (filter (is_place text) (range_from (suc k) n))) ≡ None
        by_place true e rest = ap₂ or_first (no_attempt b k e (λ x. omega arith)) rest
        by_place false e rest = rest

    none_later : has_marked_continue tree tree ≡ true → (k : ℕ) → o.pos < k → first_of (attempt q) (places_from text k) ≡ None
    unfolding places_from
    none_later b k lt = none_in b (suc (length text) - k) k lt

    -- ---- all starts

    abbrev result : Option MatchState → Outcome
    result s = outcome_of (option_map (as_numbers groups) s)

    or_result : (s u : Option MatchState) (n : ℕ) →
        or_else (option_map (as_numbers groups) s) (λ k. result u) n ≡ result (or_first s u)
    or_result None u n = refl
    or_result (Some s) u n = refl

    -- at the next start the match that is held is answered
    next_or_held : Searching (plan i) easy accepted.implicit_group_0 → (start before : ℕ) (other : Continuation) (count : ℕ)
        (longest : Option (List ℕ)) → To (λ n. exec task n (config 0 start no_slots [] [] before (none_held count))) other →
        To (λ n. exec task n (config 0 start no_slots [] [] before (record { backtracks = count; longest = longest })))
        (or_else longest other)
    next_or_held at start before other count None next = next
    next_or_held at start before other count (Some numbers) next =
        to_trans
        (task_step task (SplitUnanchored 3 1)
        (config 0 start no_slots [] [] before (record { backtracks = count; longest = Some numbers })) at.split) to_same

    searched : Searching (plan i) easy accepted.implicit_group_0 → o.anchored ≡ false → (fuel start before count : ℕ) →
        is_place text start ≡ true → o.pos ≤ start → length text < start + fuel → To
        (λ n. exec task n (config 0 start no_slots [] [] before (none_held count)))
        (λ n. result (first_of (attempt q) (places_from text start)))
    unfolding first_of
    searched at many zero start before count place from left = let within = place_within text start place in absurd (omega arith)
    searched at many (suc fuel) start before count place from left =
        to_trans (task_step task (SplitUnanchored 3 1) c at.split)
        (to_trans (to_eq (λ n. ap (λ v. after task (if v then Goes begun else push 1 c begun) n) many))
        (⊎_elim
        {C = To (λ n. exec task n (config 3 start no_slots [] (again ∷ []) start (none_held count)))
        (λ n. result (first_of (attempt q) (places_from text start)))}
        (λ lt.
        let d = char_stands text fit.is_text.utf8 start place lt in
        let some = len_utf8_bounds d.0 in
        further d.0 d.1
        (λ k.
        searched at many fuel (start + len_utf8 d.0) start k (char_ends_at_place text fit.is_text.utf8 start d.0 place d.1)
        (omega arith) (omega arith)))
        (λ ge. last ge)
        (cases_lt start (length text))))
      where
        c : Config
        c = config 0 start no_slots [] [] before (none_held count)

        begun : Config
        begun = config 3 start no_slots [] [] start (none_held count)

        again : Branch
        again = record { pc = 1; ix = start; slots = no_slots; marks = [] }

        further : (d : ℕ) → char_at text start ≡ Some d →
            ((k : ℕ) → To (λ n. exec task n (config 0 (start + len_utf8 d) no_slots [] [] start (none_held k)))
            (λ n. result (first_of (attempt q) (places_from text (start + len_utf8 d))))) →
            To (λ n. exec task n (config 3 start no_slots [] (again ∷ []) start (none_held count)))
            (λ n. result (first_of (attempt q) (places_from text start)))
        further d stands next =
            let j = start + len_utf8 d in
            let some = len_utf8_bounds d in
            let others = first_of (attempt q) (places_from text j) in
            to_trans (attempted 3 start at.attempt place (again ∷ []) (λ n. result others)
            (λ k.
            let at_any : Config = config 1 start no_slots [] [] start (once_more k) in
            to_trans (resumes task again [] (config 0 0 (λ s. 0) [] [] start k))
            (to_trans (task_step task Instr.Any at_any at.any)
            (to_trans (to_eq (λ n. ap (λ x. after task (goes_from task at_any (option_and_then (λ e. Some (start + len_utf8 e)) x)) n) stands))
            (to_trans (task_step task (Jmp 0) (config 2 j no_slots [] [] start (once_more k)) at.back)
            (next_or_held at j start (λ n. result others) (k.backtracks + 1) k.longest (next (k.backtracks + 1)))))))
            (λ b search anchored. (omega arith, λ one. to_eq (λ n. sym (ap result (none_later b j (omega arith))))))
            count)
            (to_eq
            (λ n. or_result (attempt q start) others n
            ∙ ap (λ l. result (first_of (attempt q) l)) (sym (places_on text fit.is_text.utf8 start d place stands))))

        last : length text ≤ start → To (λ n. exec task n (config 3 start no_slots [] (again ∷ []) start (none_held count)))
            (λ n. result (first_of (attempt q) (places_from text start)))
        last ge =
            let within = place_within text start place in
            to_trans (attempted 3 start at.attempt place (again ∷ []) (λ n. NoMatch)
            (λ k.
            let at_any : Config = config 1 start no_slots [] [] start (once_more k) in
            to_trans (resumes task again [] (config 0 0 (λ s. 0) [] [] start k))
            (to_trans (task_step task Instr.Any at_any at.any)
            (to_trans
            (to_eq
            (λ n.
            ap (λ x. after task (goes_from task at_any (option_and_then (λ e. Some (start + len_utf8 e)) x)) n)
            (char_at_past text start ge)))
            (held_or_none (λ n. NoMatch) k.longest to_same))))
            (λ b search anchored. (omega arith, λ one. to_same))
            count)
            (to_eq
            (λ n. or_result (attempt q start) None n
            ∙ ap (λ l. result (first_of (attempt q) l)) (sym (places_at_end text start (omega arith) place))))

    -- the continuation of the run leads to the answer
    abbrev LeadsToAnswer : Type 0
    LeadsToAnswer = To (λ n. exec task n (begin task)) (λ n. outcome_of (answer q))

    -- what the continuation from the beginning comes to is the answer
    finished : (is : List ℕ) → starts q ≡ is →
        To (λ n. exec task n (config 0 o.pos no_slots [] [] o.pos (none_held 0))) (λ n. result (first_of (attempt q) is)) → LeadsToAnswer
    unfolding answer
    finished is e t = to_trans t (to_eq (λ n. same_answer))
      where
        same_answer : result (first_of (attempt q) is) ≡ outcome_of (answer q)
        same_answer = ap result (sym (first_is (attempt q) is) ∙ ap (λ l. slice_get (filter_map (attempt q) l) 0) (sym e))

    -- an attempt from the first start alone
    alone : (a : ℕ) → Attempt (plan i) easy a → ((base : List Branch) (other : Continuation) → Stops base other) →
        To (λ n. exec task n (config a o.pos no_slots [] [] o.pos (none_held 0))) (λ n. result (first_of (attempt q) (o.pos ∷ [])))
    unfolding first_of
    alone a at stops =
        to_trans
        (attempted a o.pos at fit.pos [] (λ n. NoMatch) (λ k. held_or_none (λ n. NoMatch) k.longest to_same) (stops [] (λ n. NoMatch)) 0)
        (to_eq (λ n. or_result (attempt q o.pos) None n))

    leads_to_answer : LeadsToAnswer
    leads_to_answer = by_options (plan i).anchored o.anchored refl refl
      where
        by_options : (v u : Bool) → (plan i).anchored ≡ v → o.anchored ≡ u → LeadsToAnswer
        by_options true u is_v is_u =
            let at = anchored_attempt (plan i) easy accepted.implicit_group_0 is_v in
            finished (o.pos ∷ []) (ap (λ x. if x || o.anchored then o.pos ∷ [] else places_from text o.pos) is_v)
            (alone 0 at (λ base other b search anchored. absurd (true≢false (sym search ∙ ap is_search at.start))))
        by_options false true is_v is_u =
            let at = search_stands (plan i) easy accepted.implicit_group_0 is_v in
            let c : Config = config 0 o.pos no_slots [] [] o.pos (none_held 0) in
            let begun : Config = config 3 o.pos no_slots [] [] o.pos (none_held 0) in
            finished (o.pos ∷ []) (ap₂ (λ x y. if x || y then o.pos ∷ [] else places_from text o.pos) is_v is_u)
            (to_trans (task_step task (SplitUnanchored 3 1) c at.split)
            (to_trans (to_eq (λ n. ap (λ x. after task (if x then Goes begun else push 1 c begun) n) is_u))
            (alone 3 at.attempt (λ base other b search anchored. absurd (true≢false (sym is_u ∙ anchored))))))
        by_options false false is_v is_u =
            finished (places_from text o.pos) (ap₂ (λ x y. if x || y then o.pos ∷ [] else places_from text o.pos) is_v is_u)
            (searched (search_stands (plan i) easy accepted.implicit_group_0 is_v) is_u (suc (length text)) o.pos o.pos 0 fit.pos
            (omega arith) (omega arith))

    pub answers : Answers (plan i) (program (plan i) easy) text o
    unfolding run
    answers = limit_or_answer task (begin task) (answer q) leads_to_answer o.step_limit

    pub has_enough : HasEnough (program (plan i) easy) text o
    unfolding run
    has_enough = (leads_to_answer.steps, λ limit le. enough_steps task (begin task) (answer q) leads_to_answer limit le)
