-- Instructions that test and do not move.
use Rattle.std.proofs.Common.{◌≡◌, ℕ, ◌+◌, ◌*◌, ◌<◌, ◌≤◌, Bool, true, false, ◌&&◌, not, is_some, ◌==◌, if◌then◌else◌, List, [], ◌∷◌, ◌++◌, length, Option, Some, None, refl, sym, ap, ◌∙◌, subst, arith, length-append, eqb-true}
use Rattle.std.specs.Prelude.{slice_get}
use Rattle.std.proofs.lemmas.Bool.{ne_eqb}
use Rattle.fancy_meaning.specs.Tree.{Assertion}
use Rattle.fancy_meaning.specs.Nodes.{group_count}
use Rattle.fancy_meaning.specs.Assertions.{holds, is_of_end}
use Rattle.fancy_meaning.specs.MatchState.{MatchState, Span, put, stays_if}
use Rattle.fancy_meaning.specs.Ways.{asserts}
use Rattle.fancy_meaning.specs.Numbers.{usize_max}
use Rattle.fancy_meaning.specs.Instr.{Instr}
use Rattle.fancy_meaning.specs.Code as code
use Rattle.fancy_meaning.specs.Keys.{bit}
use Rattle.fancy_meaning.specs.Config.{forward, with_slot, Slots, Branch, Config, outcome_of, Goes, Ends}
use Rattle.fancy_meaning.specs.Machine.{flagged, step, fail, fail_to, is_search, gives_up, goes_if}
use Rattle.fancy_meaning.specs.Enumerates.{end_number, IsOutsideState}
use Rattle.fancy_composed.proofs.Continuations.{Tally, tally_of, To, to_same, to_eq, to_trans, after, Ground, here, go, resume, failed, step_at_pc}
use Rattle.fancy_composed.proofs.Alike.{alike_same}
use Rattle.fancy_composed.proofs.Enumerates.{Enumerates, none, from, one}
use Rattle.fancy_composed.proofs.Parts.{put_same, put_other, place_within, both_left, both_right, Sound, setting, flag, flag_is, first, body, whole, outside_state, Stands, After, Simulates, after_move}
use Rattle.fancy_composed.proofs.Simulates.{simulates_as}

module _ (w : Ground) where
  -- an instruction that fails, or goes on with the state and the slots turned
  pub simulates_turns : (i : Instr) (test : MatchState → Bool) (turn : MatchState → MatchState)
      (turned : MatchState → Slots → Slots) → ((s : MatchState) → (turn s).place ≡ s.place) →
      ((s : MatchState) (slots : Slots) (n : ℕ) → first w ≤ n → Stands w s slots → After w n n slots (turn s) (turned s slots)) →
      ((s : MatchState) (slots : Slots) (a : ℕ) (marks : List ℕ) (bs : List Branch) (count : Tally) → Sound w s → Stands w s slots →
      step w.task i (here w a s.place slots marks bs count) ≡
      (if test s then Goes (here w (a + 1) s.place (turned s slots) marks bs count) else fail w.task
      (here w a s.place slots marks bs count))) →
      Simulates w (code.one i) (λ s. if test s then turn s ∷ [] else [])
  simulates_turns i test turn turned place stands does = record {
    grows = λ a n. omega arith;
    handed = λ s. if test s then turn s ∷ [] else [];
    alike = λ s ok. alike_same (if test s then turn s ∷ [] else []);
    part = λ a b n e fresh h. record {
      enumerates = λ s slots marks bs count ok st.
          subst
          (λ c. Enumerates w c (After w n n slots) marks bs count.longest (if test s then turn s ∷ [] else []) (go w a s.place slots marks bs count)) e
          (from w
          (to_trans (step_at_pc w i a s.place slots marks bs count h.0)
          (to_eq (λ k. ap (λ x. after w.task x k) (does s slots a marks bs count ok st))))
          (elim (test s) as
          (λ v. Enumerates w (a + 1) (After w n n slots) marks bs count.longest (if v then turn s ∷ [] else [])
          (after w.task (if v then Goes (here w (a + 1) s.place (turned s slots) marks bs count) else fail w.task
          (here w a s.place slots marks bs count)))) [
            | true ↦ one w (turned s slots) count (stands s slots n fresh st)
                (to_eq (λ k. ap (λ x. go w (a + 1) x (turned s slots) marks bs count k) (sym (place s))))
            | false ↦ none count (failed w bs (here w a s.place slots marks bs count) refl)
          ]));
    };
  }

  -- one that only tests
  pub simulates_tests : (i : Instr) (test : MatchState → Bool) →
      ((s : MatchState) (slots : Slots) (a : ℕ) (marks : List ℕ) (bs : List Branch) (count : Tally) → Sound w s → Stands w s slots →
      step w.task i (here w a s.place slots marks bs count) ≡ goes_if w.task (test s)
      (here w a s.place slots marks bs count)) →
      Simulates w (code.one i) (stays_if test)
  simulates_tests i test does =
      simulates_turns i test (λ s. s) (λ s slots. slots) (λ s. refl) (λ s slots n fresh st. after_move w n n s slots st)
      (λ s slots a marks bs count ok st. does s slots a marks bs count ok st
      ∙ goes_if_is (here w a s.place slots marks bs count) (test s))
    where
      goes_if_is : (c : Config) (v : Bool) →
          goes_if w.task v c ≡ (if v then Goes (record c { now = record (c.now) { pc = c.pc + 1 } }) else fail w.task c)
      goes_if_is c true = refl
      goes_if_is c false = refl

  pub simulates_keeps_out : Simulates w (code.one (Instr.Save 0)) (λ s. record s { kept = s.place } ∷ [])
  simulates_keeps_out =
      simulates_turns (Instr.Save 0) (λ s. true) (λ s. record s { kept = s.place }) (λ s slots. put 0 s.place slots) (λ s. refl)
      (λ s slots n fresh st. record {
        stands = record {
          kept = put_same slots 0 0 s.place refl;
          starts = λ g lo hi. put_other slots 0 (2 * g) s.place (λ x. omega arith) ∙ st.starts g lo hi;
          ends = λ g lo hi. put_other slots 0 (2 * g + 1) s.place (λ x. omega arith) ∙ st.ends g lo hi;
          flagged = λ e. put_other slots 0 (flag w) s.place (λ x. omega (arith, flag_is w)) ∙ st.flagged e;
        };
        keeps = λ k lo out. put_other slots 0 k s.place (outside_state w k 0 lo (λ x. omega arith) (omega (arith, flag_is w)));
      })
      (λ s slots a marks bs count ok st. refl)

  -- the state where an assertion is met, and the slots there
  abbrev met_state : Bool → MatchState → MatchState
  met_state u s = if u then record s { text_end = true } else s

  abbrev met_slots : Bool → Slots → Slots
  met_slots u slots = if u then put (flag w) 1 slots else slots

  stands_met : (u v : Bool) → ((w.task).program).end_text ≡ v → (s : MatchState) (slots : Slots) → Stands w s slots →
      Stands w (met_state u s) (met_slots (v && u) slots)
  stands_met true true is s slots st = record {
    kept = put_other slots (flag w) 0 1 (λ x. omega (arith, flag_is w)) ∙ st.kept;
    starts = λ g lo hi. put_other slots (flag w) (2 * g) 1 (λ x. omega (arith, hi)) ∙ st.starts g lo hi;
    ends = λ g lo hi. put_other slots (flag w) (2 * g + 1) 1 (λ x. omega (arith, flag_is w, hi)) ∙ st.ends g lo hi;
    flagged = λ e. put_same slots (flag w) (flag w) 1 refl;
  }
  stands_met true false is s slots st = record { kept = st.kept; starts = st.starts; ends = st.ends; flagged = λ e. cc }
  stands_met false true is s slots st = st
  stands_met false false is s slots st = st

  met_other : (u v : Bool) → ((w.task).program).end_text ≡ v → (slots : Slots) (k : ℕ) → IsOutsideState w.task k →
      met_slots (v && u) slots k ≡ slots k
  met_other true true is slots k lo =
      let b = ap bit is in
      put_other slots (flag w) k 1 (outside_state w k (flag w) lo (λ x. omega (arith, flag_is w, x)) (omega (arith, b)))
  met_other true false is slots k lo = refl
  met_other false true is slots k lo = refl
  met_other false false is slots k lo = refl

  met_config : (v : Bool) (pc ix : ℕ) (slots : Slots) (marks : List ℕ) (bs : List Branch) (count : Tally) → forward
      (if v then with_slot (flag w) 1 (here w pc ix slots marks bs count) else here w pc ix slots marks bs count) ≡ here w
      (pc + 1) ix (met_slots v slots) marks bs count
  met_config true pc ix slots marks bs count = refl
  met_config false pc ix slots marks bs count = refl

  pub simulates_asserts : (a : Assertion) → Simulates w (code.one (Instr.Assert a)) (asserts (setting w) a)
  simulates_asserts a =
      simulates_turns (Instr.Assert a) (λ s. holds (w.task).text s.place (w.plan).unicode a) (λ s. met_state (is_of_end a) s)
      (λ s slots. met_slots (((w.task).program).end_text && is_of_end a) slots)
      (λ s. elim (is_of_end a) as (λ u. (met_state u s).place ≡ s.place) [ true ↦ refl | false ↦ refl ])
      (λ s slots n fresh st. record {
        stands = stands_met (is_of_end a) ((w.task).program).end_text refl s slots st;
        keeps = λ k lo out. met_other (is_of_end a) ((w.task).program).end_text refl slots k lo;
      })
      (λ s slots pc marks bs count ok st.
      ap
      (λ u.
      if holds (w.task).text s.place u a then Goes
      (forward (flagged w.task a (here w pc s.place slots marks bs count))) else fail w.task
      (here w pc s.place slots marks bs count))
      (w.fits).unicode
      ∙ ap
      (λ x.
      if holds (w.task).text s.place (w.plan).unicode a then Goes x else fail w.task (here w pc s.place slots marks bs count))
      (met_config (((w.task).program).end_text && is_of_end a) pc s.place slots marks bs count))

  -- where a group was captured its end is a place
  pub simulates_exists : (g : ℕ) → 0 < g → g ≤ group_count (whole w) → length (w.task).text < usize_max →
      Simulates w (code.one (Instr.BackrefExistsCondition g)) (stays_if (λ s. is_some (s.captures g)))
  simulates_exists g pos le fits =
      simulates_tests (Instr.BackrefExistsCondition g) (λ s. is_some (s.captures g))
      (λ s slots a marks bs count ok st.
      ap (λ v. goes_if w.task (not (v == usize_max)) (here w a s.place slots marks bs count))
      (st.ends g pos (omega (arith, flag_is w)))
      ∙ ap (λ v. goes_if w.task v (here w a s.place slots marks bs count)) (set s ok (s.captures g) refl))
    where
      set : (s : MatchState) → Sound w s → (o : Option Span) → s.captures g ≡ o → not (end_number o == usize_max) ≡ is_some o
      set s ok None e = refl
      set s ok (Some (i, j)) e =
          ap not
          (ne_eqb j usize_max (λ q. let at = place_within (w.task).text j (ok.spans g (i, j) e).to in omega (arith, at, fits, q)))

  not_true : (v : Bool) → not v ≡ true → v ≡ false
  not_true true e = cc
  not_true false e = refl

  -- what falling to the ground leads to, where a marked `\G` gives up there
  abbrev pub MayStop : Type 0
  MayStop =
      is_search (slice_get (body w) 0) ≡ true → (w.task).anchored ≡ false →
      (1 ≤ length w.base) × (length w.base ≡ 1 → (count : Tally) → To (λ n. outcome_of count.longest) (w.bottom count))

  pub simulates_continues : (at_start : Bool) → (at_start ≡ true → MayStop) → Simulates w
      (code.one (Instr.ContinueFromPreviousMatchEnd at_start)) (stays_if (λ s. (w.task).continued && s.place == (w.task).pos))
  simulates_continues at_start stop =
      simulates_as w (stays_if (λ s. (w.task).continued && s.place == (w.task).pos)) at_last
      (λ s ok. ap (λ v. if v then s ∷ [] else []) (swapped (s.place == (w.task).pos) (w.task).continued))
    where
      swapped : (u v : Bool) → (u && v) ≡ (v && u)
      swapped true true = refl
      swapped true false = refl
      swapped false true = refl
      swapped false false = refl

      stops : (c : Config) → gives_up w.task at_start c ≡ true →
          ((1 ≤ length w.base) × (length w.base ≡ 1 → (count : Tally) → To (λ n. outcome_of count.longest) (w.bottom count))) ×
          (length c.branches ≡ 1)
      stops c h =
          let searches = is_search (slice_get (body w) 0) in
          let front = both_left (at_start && searches && not (w.task).anchored) (length c.branches == 1) h in
          let marked = both_left (at_start && searches) (not (w.task).anchored) front in (
            stop (both_left at_start searches marked) (both_right at_start searches marked)
                (not_true (w.task).anchored (both_right (at_start && searches) (not (w.task).anchored) front)),
            eqb-true (length c.branches) 1
                (both_right (at_start && searches && not (w.task).anchored) (length c.branches == 1) h),
          )

      gives : (bs : List Branch) (count : Tally) (c : Config) (v : Bool) → c.branches ≡ bs ++ w.base → c.start ≡ w.start →
          tally_of c ≡ count → gives_up w.task at_start c ≡ v →
          To (after w.task (if v then Ends (outcome_of c.longest) else fail w.task c)) (resume w bs count)
      gives bs count c false e f g h =
          to_trans (to_eq (λ n. ap (λ l. after w.task (fail_to w.task l c) n) e))
          (subst (λ x. To (after w.task (fail_to w.task (bs ++ w.base) c)) (resume w bs x)) g (failed w bs c f))
      gives [] count c true e f g h =
          let m = stops c h in
          subst (λ x. To (λ n. outcome_of c.longest) (w.bottom x)) g (m.0.1 (ap length (sym e) ∙ m.1) (tally_of c))
      gives (b ∷ bs) count c true e f g h =
          let m = stops c h in
          let l : length ((b ∷ bs) ++ w.base) ≡ 1 = ap length (sym e) ∙ m.1 in
          absurd (omega (arith, l, m.0.0, length-append bs w.base))

      at_last : Simulates w (code.one (Instr.ContinueFromPreviousMatchEnd at_start))
          (λ s. if s.place == (w.task).pos && (w.task).continued then s ∷ [] else [])
      at_last = record {
        grows = λ a n. omega arith;
        handed = λ s. if s.place == (w.task).pos && (w.task).continued then s ∷ [] else [];
        alike = λ s ok. alike_same (if s.place == (w.task).pos && (w.task).continued then s ∷ [] else []);
        part = λ a b n e fresh h. record {
          enumerates = λ s slots marks bs count ok st.
              subst
              (λ c.
              Enumerates w c (After w n n slots) marks bs count.longest (if s.place == (w.task).pos && (w.task).continued then s ∷ [] else [])
              (go w a s.place slots marks bs count)) e
              (from w (step_at_pc w (Instr.ContinueFromPreviousMatchEnd at_start) a s.place slots marks bs count h.0)
              (elim (s.place == (w.task).pos && (w.task).continued) as
              (λ v. Enumerates w (a + 1) (After w n n slots) marks bs count.longest (if v then s ∷ [] else [])
              (after w.task (if v then Goes (here w (a + 1) s.place slots marks bs count) else
              (if gives_up w.task at_start (here w a s.place slots marks bs count) then Ends (outcome_of count.longest) else fail w.task
              (here w a s.place slots marks bs count))))) [
                | true ↦ one w slots count (after_move w n n s slots st) to_same
                | false ↦ none count
                    (gives bs count (here w a s.place slots marks bs count)
                    (gives_up w.task at_start (here w a s.place slots marks bs count)) refl refl refl refl)
              ]));
        };
      }
