-- Where the whole tree is easy, a run ends: one backtrack and eight instructions for each start are enough.
use Rattle.std.proofs.Common.{◌≡◌, ⊎_elim, ℕ, zero, suc, ◌+◌, ◌*◌, ◌<◌, ◌≤◌, Bool, true, false, ◌&&◌, ◌||◌, ◌==◌, not, if◌then◌else◌, List, [], ◌∷◌, length, Option, Some, None, option_and_then, refl, sym, ap, ap₂, subst, arith}
use Rattle.std.specs.Char.{len_utf8}
use Rattle.std.proofs.lemmas.Bool.{cases_lt, or_parts}
use Rattle.std.proofs.lemmas.Str.{len_utf8_bounds}
use Rattle.regex_hir.specs.Text.{char_at}
use Rattle.regex_hir.proofs.TextLemmas.{char_at_past}
use Rattle.fancy_meaning.specs.Tree.{Tree}
use Rattle.fancy_meaning.specs.Places.{is_place, places_from}
use Rattle.fancy_meaning.specs.OpenCalls.{no_calls, free_calls}
use Rattle.fancy_meaning.specs.Options.{RunOptions}
use Rattle.fancy_meaning.specs.Hard.{is_hard, is_root_hard}
use Rattle.fancy_meaning.specs.Sizes.{size}
use Rattle.fancy_meaning.specs.Instr.{Instr, Jmp, SplitUnanchored}
use Rattle.fancy_meaning.specs.Batches.{batch}
use Rattle.fancy_meaning.specs.Code.{Code}
use Rattle.fancy_meaning.specs.Layout.{layout, program, called_code, written}
use Rattle.fancy_meaning.specs.Config.{Slots, Branch, Config, Goes, push}
use Rattle.fancy_meaning.specs.Machine.{Task, goes_from, tries_next, run, begin}
use Rattle.fancy_meaning.specs.Premises.{Input, plan, IsAccepted, IsFit}
use Rattle.fancy_meaning.specs.Theorems.{BranchBound, BacktrackBound, InstructionBound}
use Rattle.fancy_meaning.specs.Answer.{search_of, starts}
use Rattle.fancy_meaning.specs.Numbers.{usize_max}
use Rattle.fancy_composed.proofs.Continuations.{Tally, config}
use Rattle.fancy_composed.proofs.Parts.{place_within}
use Rattle.fancy_composed.proofs.Places.{char_stands, places_on, places_at_end}
use Rattle.fancy_composed.proofs.Programs.{Attempt, anchored_attempt, Searching, search_stands}
use Rattle.fancy_composed.proofs.Programs as programs
use Rattle.fancy_laws.proofs.Characters.{char_ends_at_place}
use Rattle.fancy_headline.proofs.Answered.{easy}
use Rattle.fancy_headline.proofs.Plain.{AtMostOne, batch_plain}
use Rattle.fancy_headline.proofs.Bounded.{IsBounded, bounded_more, match_bounded, answer_bounded, step_bounded, FailsBounded, none_left, one_left, IsAt, attempt_bounded}

module _ (i : Input) (text : List ℕ) (o : RunOptions) (accepted : IsAccepted i (length (program (plan i) (easy i)).body))
    (fit : IsFit i text o)
    (all_easy : is_root_hard (plan i).analysis ≡ false) where
  abbrev task : Task
  task = record { program = program (plan i) (easy i); text = text; options = o }

  abbrev tree : Tree
  tree = (plan i).analysis.tree

  abbrev calls : ℕ → Bool → Code
  calls = called_code (plan i) (easy i) (free_calls tree no_calls) no_calls

  -- the whole tree is one batch
  root_is : programs.root (plan i) (easy i) ≡ batch (plan i).unicode (tree ∷ [])
  root_is =
      let parts =
      or_parts (is_hard (plan i).analysis tree) ((plan i).analysis.end_text && (size tree tree).least == 0) all_easy in
      ap₂
      (λ u v.
      if (not u && not v) && true then batch (plan i).unicode (tree ∷ []) else written (plan i) (easy i) calls tree true false) parts.0 parts.1

  root_plain : (a n : ℕ) → AtMostOne task (programs.root (plan i) (easy i) a n).instrs
  root_plain a n = subst (λ c. AtMostOne task (c a n).instrs) (sym root_is) (batch_plain task (plan i).unicode (tree ∷ []) a n)

  -- an attempt above branches that are bounded
  attempted : (a : ℕ) → Attempt (plan i) (easy i) a →
      (bs : List Branch) (few : length bs ≤ 1) (count starts k : ℕ) (failing : FailsBounded task bs count starts k) → (c : Config) →
      IsAt task bs few count starts k failing a c → IsBounded task count starts (suc (suc (suc (suc (suc k))))) (Goes c)
  attempted a at bs few count starts k failing =
      attempt_bounded task bs few count starts k failing a (plan i).end_text
      (root_plain (a + 1) (programs.fresh (plan i) (easy i))) at.start at.tree at.end at.ends

  alone : (a starts : ℕ) → Attempt (plan i) (easy i) a → (c : Config) → c.pc ≡ a → c.branches ≡ [] → c.backtracks ≡ 0 →
      IsBounded task 0 starts (suc (suc (suc (suc (suc 0))))) (Goes c)
  alone a starts at c p b k =
      attempted a at [] (omega arith) 0 starts 0 (none_left task 0 starts 0) c (record { pc = p; branches = b; backtracks = k })

  -- ---- the search

  abbrev Held : Type 0
  Held = Option (List ℕ)

  abbrev tally : ℕ → Held → Tally
  tally count longest = record { backtracks = count; longest = longest }

  abbrev no_slots : Slots
  no_slots = λ k. usize_max

  module _ (at : Searching (plan i) (easy i) accepted.implicit_group_0) where
    -- the branch of an attempt
    abbrev again : ℕ → Branch
    again start = record { pc = 1; ix = start; slots = no_slots; marks = [] }

    -- past the character that stands there
    abbrev past : ℕ → Option ℕ → Option ℕ
    past start char = option_and_then (λ c. Some (start + len_utf8 c)) char

    -- it takes a character, and the search begins anew
    goes_again : (start count starts k c : ℕ) → char_at text start ≡ Some c →
        ((first : ℕ) (longest : Held) →
        IsBounded task count starts k (Goes (config 0 (start + len_utf8 c) no_slots [] [] first (tally count longest)))) →
        (first : ℕ) (longest : Held) →
        IsBounded task count starts (suc (suc k)) (Goes (config 1 start no_slots [] [] first (tally count longest)))
    goes_again start count starts k c stands on first longest =
        let d : Config = config 1 start no_slots [] [] first (tally count longest) in
        step_bounded task Instr.Any d at.any (omega arith)
        (subst (λ v. IsBounded task count starts (suc k) (goes_from task d (past start v))) (sym stands)
        (step_bounded task (Jmp 0) (config 2 (start + len_utf8 c) no_slots [] [] first (tally count longest)) at.back (omega arith)
        (on first longest)))

    -- or the text is at its end
    ends_there : (start count starts : ℕ) → char_at text start ≡ None →
        (first : ℕ) (longest : Held) → IsBounded task count starts (suc 0) (Goes (config 1 start no_slots [] [] first (tally count longest)))
    ends_there start count starts stands first longest =
        let d : Config = config 1 start no_slots [] [] first (tally count longest) in
        step_bounded task Instr.Any d at.any (omega arith)
        (subst (λ v. IsBounded task count starts 0 (goes_from task d (past start v))) (sym stands)
        (answer_bounded task count starts 0 longest))

    -- one start, from what comes after it
    begun : o.anchored ≡ false → (start before count starts k : ℕ) (longest : Held) →
        ((first : ℕ) (held : Held) →
        IsBounded task (count + 1) starts k (Goes (config 1 start no_slots [] [] first (tally (count + 1) held)))) →
        IsBounded task count (suc starts) (suc (suc (suc (suc (suc (suc k))))))
        (Goes (config 0 start no_slots [] [] before (tally count longest)))
    begun many start before count starts k longest next =
        step_bounded task (SplitUnanchored 3 1) (c longest) at.split (omega arith) (by_held longest)
      where
        c : Held → Config
        c held = config 0 start no_slots [] [] before (tally count held)

        by_held : (held : Held) →
            IsBounded task count (suc starts) (suc (suc (suc (suc (suc k))))) (tries_next task 3 1 held (c held))
        by_held (Some numbers) = match_bounded task count (suc starts) (suc (suc (suc (suc (suc k))))) numbers
        by_held None =
            let d : Config = config 3 start no_slots [] [] start (tally count None) in
            let failing = one_left task (again start) count starts k next in
            subst
            (λ v. IsBounded task count (suc starts) (suc (suc (suc (suc (suc k))))) (if v then Goes d else push 1 (c None) d))
            (sym many)
            (attempted 3 at.attempt (again start ∷ []) (omega arith) count (suc starts) k failing
            (config 3 start no_slots [] (again start ∷ []) start (tally count None))
            (record { pc = refl; branches = refl; backtracks = refl }))

    -- all starts from one on
    abbrev AllBounded : ℕ → ℕ → ℕ → Held → List ℕ → Type 0
    AllBounded start before count longest is =
        IsBounded task count (length is) (8 * length is) (Goes (config 0 start no_slots [] [] before (tally count longest)))

    searched : o.anchored ≡ false → (fuel start before count : ℕ) (longest : Held) → is_place text start ≡ true →
        length text < start + fuel →
        AllBounded start before count longest (places_from text start)
    searched many zero start before count longest place left =
        let within = place_within text start place in absurd (omega (arith, within, left))
    searched many (suc fuel) start before count longest place left =
        ⊎_elim {C = AllBounded start before count longest (places_from text start)}
        (λ lt.
        let d = char_stands text fit.is_text.utf8 start place lt in
        let j = start + len_utf8 d.0 in
        let some = len_utf8_bounds d.0 in
        subst (AllBounded start before count longest) (sym (places_on text fit.is_text.utf8 start d.0 place d.1))
        (further (length (places_from text j))
        (begun many start before count (length (places_from text j)) (suc (suc (8 * length (places_from text j)))) longest
        (goes_again start (count + 1) (length (places_from text j)) (8 * length (places_from text j)) d.0 d.1
        (λ first held.
        searched many fuel j first (count + 1) held (char_ends_at_place text fit.is_text.utf8 start d.0 place d.1)
        (omega (arith, some, left)))))))
        (λ ge.
        let within = place_within text start place in
        subst (AllBounded start before count longest) (sym (places_at_end text start (omega (arith, within, ge)) place))
        (bounded_more task (omega arith)
        (begun many start before count 0 (suc 0) longest (ends_there start (count + 1) 0 (char_at_past text start ge)))))
        (cases_lt start (length text))
      where
        further : (m : ℕ) → IsBounded task count (suc m) (suc (suc (suc (suc (suc (suc (suc (suc (8 * m)))))))))
            (Goes (config 0 start no_slots [] [] before (tally count longest))) →
            IsBounded task count (suc m) (8 * suc m) (Goes (config 0 start no_slots [] [] before (tally count longest)))
        further m b = bounded_more task (omega arith) b

  -- ---- the whole run

  abbrev the_starts : List ℕ
  the_starts = starts (search_of (plan i) text o)

  abbrev RunBounded : List ℕ → Type 0
  RunBounded is = IsBounded task 0 (length is) (8 * length is) (Goes (begin task))

  pub run_bounded : RunBounded the_starts
  run_bounded = by_options (plan i).anchored o.anchored refl refl
    where
      by_options : (v u : Bool) → (plan i).anchored ≡ v → o.anchored ≡ u → RunBounded the_starts
      by_options true u is_v is_u =
          subst RunBounded (sym (ap (λ x. if x || o.anchored then o.pos ∷ [] else places_from text o.pos) is_v))
          (bounded_more task (omega arith)
          (alone 0 1 (anchored_attempt (plan i) (easy i) accepted.implicit_group_0 is_v) (begin task) refl refl refl))
      by_options false true is_v is_u =
          let at = search_stands (plan i) (easy i) accepted.implicit_group_0 is_v in
          let d : Config = config 3 o.pos no_slots [] [] o.pos (tally 0 None) in
          subst RunBounded (sym (ap₂ (λ x y. if x || y then o.pos ∷ [] else places_from text o.pos) is_v is_u))
          (bounded_more task (omega arith)
          (step_bounded task (SplitUnanchored 3 1) (begin task) at.split (omega arith)
          (subst (λ v. IsBounded task 0 1 (suc (suc (suc (suc (suc 0))))) (if v then Goes d else push 1 (begin task) d)) (sym is_u)
          (alone 3 1 at.attempt d refl refl refl))))
      by_options false false is_v is_u =
          subst RunBounded (sym (ap₂ (λ x y. if x || y then o.pos ∷ [] else places_from text o.pos) is_v is_u))
          (searched (search_stands (plan i) (easy i) accepted.implicit_group_0 is_v) is_u
          (suc (length text)) o.pos o.pos 0 None fit.pos (omega arith))

pub branch_bound : BranchBound
unfolding layout run
branch_bound i text o known =
    let bounded = run_bounded i text o known.0 known.1 known.2 in
    (λ n c reaches. bounded.branches n c reaches, bounded.room o.step_limit)

pub backtrack_bound : BacktrackBound
unfolding layout run
backtrack_bound i text o known le = (run_bounded i text o known.0 known.1 known.2).backtracks (omega (arith, le)) o.step_limit

pub instruction_bound : InstructionBound
unfolding layout run
instruction_bound i text o known le = (run_bounded i text o known.0 known.1 known.2).steps o.step_limit le
