-- A higher backtrack limit changes nothing, unless the limit was passed.
use Rattle.std.proofs.Common.{◌≡◌, ◌≢◌, ◌⊎◌, inl, inr, ⊎_elim, ℕ, zero, suc, ◌+◌, ◌*◌, ◌≤◌, Bool, true, false, ◌&&◌, ◌||◌, not, is_some, if◌then◌else◌, ◌==◌, nat_lt, List, [], ◌∷◌, map, Option, Some, None, option_and_then, refl, sym, ap, ◌∙◌, subst, arith, lt-ltb}
use Rattle.std.specs.Prelude.{slice_get}
use Rattle.std.proofs.lemmas.Bool.{cases_lt, cond-true, cond-false, le-ltb}
use Rattle.fancy_meaning.specs.Assertions.{holds}
use Rattle.fancy_meaning.specs.Chars.{literal_takes, any_takes}
use Rattle.fancy_meaning.specs.MatchState.{MatchState}
use Rattle.fancy_meaning.specs.Moves.{past_char, past_chars, past_bytes, past_piece}
use Rattle.fancy_meaning.specs.Numbers.{usize_max}
use Rattle.fancy_meaning.specs.Places.{is_place, back_by}
use Rattle.fancy_meaning.specs.Instr.{Instr}
use Rattle.fancy_meaning.specs.Config.{Branch, Config, BacktrackLimitExceeded, longer, Next, Goes, Ends, below_pc, span_at}
use Rattle.fancy_meaning.specs.Machine.{Task, class_test, fail_to, goes_if, goes_from, first_way, takes_way, takes_char, tries_next, is_end, gives_up, is_rejected, cut, fail_below, numbers_of, is_longest, keeps, step, step_at, exec, then_on, begin, run}
use Rattle.fancy_limits.specs.Limits.{with_backtrack_limit}

-- the limit was passed, or the other is the same
abbrev Agrees : Next → Next → Type 0
Agrees a b = (a ≡ Ends BacktrackLimitExceeded) ⊎ (b ≡ a)

if_agrees : (v : Bool) {a b c d : Next} → Agrees a b → Agrees c d → Agrees (if v then a else c) (if v then b else d)
if_agrees true h k = h
if_agrees false h k = k

module _ (t : Task) (limit : ℕ) (le : t.backtrack_limit ≤ limit) where
  abbrev higher : Task
  higher = with_backtrack_limit limit t

  agree_at_failure : (bs : List Branch) (c : Config) → Agrees (fail_to t bs c) (fail_to higher bs c)
  agree_at_failure [] c = inr refl
  agree_at_failure (b ∷ bs) c = ⊎_elim
      {C = Agrees (fail_to t (b ∷ bs) c) (fail_to higher (b ∷ bs) c)}
      (λ lt. inr
      (cond-true (nat_lt c.backtracks limit) _ _ (lt-ltb c.backtracks limit (omega (arith, lt, le)))
      ∙ sym (cond-true (nat_lt c.backtracks t.backtrack_limit) _ _ (lt-ltb c.backtracks t.backtrack_limit lt))))
      (λ ge. inl (cond-false (nat_lt c.backtracks t.backtrack_limit) _ _ (le-ltb c.backtracks t.backtrack_limit ge)))
      (cases_lt c.backtracks t.backtrack_limit)

  agree_on_test : (v : Bool) (c : Config) → Agrees (goes_if t v c) (goes_if higher v c)
  agree_on_test true c = inr refl
  agree_on_test false c = agree_at_failure c.branches c

  agree_on_place : (c : Config) (o : Option ℕ) → Agrees (goes_from t c o) (goes_from higher c o)
  agree_on_place c None = agree_at_failure c.branches c
  agree_on_place c (Some i) = inr refl

  agree_on_way : (c : Config) (o : Option MatchState) → Agrees (takes_way t c o) (takes_way higher c o)
  agree_on_way c None = agree_at_failure c.branches c
  agree_on_way c (Some s) = inr refl

  agree_on_cut : (c : Config) (marks : List ℕ) → Agrees (cut t c marks) (cut higher c marks)
  agree_on_cut c [] = agree_at_failure c.branches c
  agree_on_cut c (m ∷ ms) = inr refl

  agree_below : (c : Config) (o : Option (List Branch)) → Agrees (fail_below t c o) (fail_below higher c o)
  agree_below c None = agree_at_failure c.branches c
  agree_below c (Some bs) = agree_at_failure bs c

  agree_on_char : (c : Config) (o : Option ℕ) → Agrees (takes_char t c o) (takes_char higher c o)
  agree_on_char c None = agree_at_failure c.branches c
  agree_on_char c (Some i) = inr refl

  agree_on_keeping : (c : Config) → Agrees (keeps t c) (keeps higher c)
  agree_on_keeping c =
      let longest : List ℕ = longer c.longest (numbers_of t c) in
      if_agrees (is_longest t c) (inr refl)
      (agree_at_failure c.branches (record c { longest = Some longest }))

  agree_on_step : (i : Instr) (c : Config) → Agrees (step t i c) (step higher i c)
  agree_on_step Instr.Any c = agree_on_place c (past_char t.text (any_takes true false) c.ix)
  agree_on_step Instr.AnyNoNL c = agree_on_place c (past_char t.text (any_takes false false) c.ix)
  agree_on_step Instr.AnyNoCRLF c = agree_on_place c (past_char t.text (any_takes false true) c.ix)
  agree_on_step (Instr.Lit bytes) c = agree_on_place c (past_bytes t.text bytes c.ix)
  agree_on_step (Instr.LitCasei cs unicode) c =
      agree_on_place c (past_chars t.text (map (λ d. literal_takes unicode d.0 d.1) cs) c.ix)
  agree_on_step (Instr.Class class) c = agree_on_place c (past_char t.text (class_test class) c.ix)
  agree_on_step (Instr.Assert a) c =
      if_agrees (holds t.text c.ix (t.program).unicode a) (inr refl) (agree_at_failure c.branches c)
  agree_on_step (Instr.Split x y) c = inr refl
  agree_on_step (Instr.SplitUnanchored x y) c = by_longest c.longest
    where
      by_longest : (o : Option (List ℕ)) → Agrees (tries_next t x y o c) (tries_next higher x y o c)
      by_longest None = inr refl
      by_longest (Some numbers) = inr refl
  agree_on_step (Instr.Jmp x) c = inr refl
  agree_on_step (Instr.Save s) c = inr refl
  agree_on_step (Instr.Save0 s) c = inr refl
  agree_on_step (Instr.SaveCaptureGroupStart g s) c = inr refl
  agree_on_step (Instr.SaveCaptureGroup g s) c = inr refl
  agree_on_step (Instr.Restore s) c =
      if_agrees (is_place t.text (c.slots s)) (inr refl) (agree_at_failure c.branches c)
  agree_on_step (Instr.Repeat greedy lo hi next repeat) c = inr refl
  agree_on_step (Instr.RepeatEpsilon greedy lo next repeat check) c = inr refl
  agree_on_step Instr.FailNegativeLookAround c = agree_below c (below_pc (c.pc + 1) c.branches)
  agree_on_step (Instr.GoBack n) c = agree_on_place c (back_by t.text n c.ix)
  agree_on_step (Instr.Backref s casei unicode) c =
      agree_on_place c (option_and_then (λ span. past_piece t.text unicode casei span c.ix) (span_at t.text s c.slots))
  agree_on_step (Instr.BackrefExistsCondition g) c = agree_on_test (not (c.slots (2 * g + 1) == usize_max)) c
  agree_on_step Instr.BeginAtomic c = inr refl
  agree_on_step Instr.EndAtomic c = agree_on_cut c c.marks
  agree_on_step (Instr.Delegate pattern f groups) c = agree_on_way c (first_way t f c.ix)
  agree_on_step (Instr.AbsentRepeater pattern f groups) c =
      if_agrees (is_end t c.ix || is_some (first_way t f c.ix)) (inr refl)
      (agree_on_char c (past_char t.text (λ d. true) c.ix))
  agree_on_step (Instr.ContinueFromPreviousMatchEnd at_start) c =
      if_agrees (c.ix == t.pos && t.continued) (inr refl)
      (if_agrees (gives_up t at_start c) (inr refl) (agree_at_failure c.branches c))
  agree_on_step Instr.Fail c = agree_at_failure c.branches c
  agree_on_step Instr.RejectEmptyMatchAtEOFFollowingNewline c = agree_on_test (not (is_rejected t c)) c
  agree_on_step Instr.End c =
      if_agrees (t.not_empty && c.ix == c.start) (agree_at_failure c.branches c)
      (if_agrees t.leftmost_longest (agree_on_keeping c) (inr refl))

  agree_at : (o : Option Instr) (c : Config) → Agrees (step_at t o c) (step_at higher o c)
  agree_at None c = inr refl
  agree_at (Some i) c = agree_on_step i c

  -- the limit is passed within n instructions, or the outcome is the same
  abbrev AreSame : ℕ → Next → Next → Type 0
  AreSame n a b = (then_on t (exec t n) a ≡ BacktrackLimitExceeded) ⊎ (then_on higher (exec higher n) b ≡ then_on t (exec t n) a)

  same_on : (n : ℕ) → ((c : Config) → AreSame n (Goes c) (Goes c)) → (next : Next) → AreSame n next next
  same_on n known (Goes d) = known d
  same_on n known (Ends o) = inr refl

  same_after : (n : ℕ) → ((c : Config) → AreSame n (Goes c) (Goes c)) → (a b : Next) → Agrees a b → AreSame n a b
  same_after n known a b (inl passed) = inl (ap (then_on t (exec t n)) passed)
  same_after n known a b (inr same) = subst (λ x. AreSame n a x) (sym same) (same_on n known a)

  same_unless_passed : (n : ℕ) (c : Config) → AreSame n (Goes c) (Goes c)
  same_unless_passed zero c = inr refl
  same_unless_passed (suc n) c =
      let i = slice_get (t.program).body c.pc in
      same_after n (same_unless_passed n) (step_at t i c) (step_at higher i c) (agree_at i c)

pub higher_backtrack_limit : (t : Task) (limit : ℕ) → t.backtrack_limit ≤ limit → run t ≢ BacktrackLimitExceeded →
    run (with_backtrack_limit limit t) ≡ run t
unfolding run
higher_backtrack_limit t limit le none =
    ⊎_elim (λ passed. absurd (none passed)) (λ same. same) (same_unless_passed t limit le t.step_limit (begin t))
