-- Loops that count their iterations.
use Rattle.std.proofs.Common.{◌≡◌, ◌≢◌, ℕ, zero, suc, ◌+◌, ◌-◌, ◌<◌, ◌≤◌, min, Bool, true, false, ◌&&◌, nat_lt, nat_le, ◌==◌, if◌then◌else◌, List, [], ◌∷◌, length, flat_map, Option, Some, None, unwrap_or, refl, sym, ap, ap₂, ◌∙◌, subst, arith, inl, inr, ⊎_elim}
use Rattle.std.specs.Prelude.{slice_get}
use Rattle.std.proofs.lemmas.Bool.{eq-eqb, ne_eqb, le-leb, lt-leb, lt-ltb, le-ltb}
use Rattle.std.proofs.lemmas.Bool.Decides.{eqb_tells}
use Rattle.fancy_meaning.specs.MatchState.{MatchState, Ways, put}
use Rattle.fancy_meaning.specs.Loops.{required, at_most, if_moved, unbounded}
use Rattle.fancy_meaning.specs.Numbers.{usize_max}
use Rattle.fancy_meaning.specs.Instr.{Instr, Jmp, RepeatEpsilon}
use Rattle.fancy_meaning.specs.Instr as instr
use Rattle.fancy_meaning.specs.Config.{Slots, Branch, Next}
use Rattle.fancy_meaning.specs.Machine.{choose}
use Rattle.fancy_composed.proofs.Continuations.{Tally, To, to_same, to_eq, to_trans, after, Ground, here, go, step_at_pc}
use Rattle.fancy_composed.proofs.Alike.{Among}
use Rattle.fancy_composed.proofs.Enumerates.{Enumerates, from, one, weaken, known, bind, forked, fork, fork_choose}
use Rattle.fancy_composed.proofs.Parts.{sound_within, put_same, put_other, Sound, Keeps, first, body, Stands, After, Part, after_trans, after_move, after_put}

-- a test that is decided
to_true : (w : Ground) (v : Bool) (x y : Next) → v ≡ true → To (after w.task (if v then x else y)) (after w.task x)
to_true w v x y e = to_eq (λ k. ap (λ u. after w.task (if u then x else y) k) e)

to_false : (w : Ground) (v : Bool) (x y : Next) → v ≡ false → To (after w.task (if v then x else y)) (after w.task y)
to_false w v x y e = to_eq (λ k. ap (λ u. after w.task (if u then x else y) k) e)

-- a loop's head is at a, its body comes after it with fresh slots from k on, and from b it goes back; n is its count
module _ (w : Ground) (a b c n k m : ℕ) (f : Ways) (fresh : first w ≤ n) (lk : n < k) (km : k ≤ m)
    (jump : slice_get (body w) b ≡ Some (Jmp a)) (e : b + 1 ≡ c) (ord : a + 1 ≤ b) (keeps : Keeps w f)
    (p : Part w (a + 1) b k m f) where
  -- an iteration, and what comes after it
  iterate : (g : Ways) (s : MatchState) (slots slots1 : Slots) (marks : List ℕ) (bs : List Branch) (count : Tally) → Sound w s →
      After w n m slots s slots1 →
      ((h : MatchState) (r : Slots) (cs : List Branch) (i : Tally) → Sound w h → Among h (f s) → After w k m slots1 h r →
      Enumerates w c (After w n m r) marks cs i.longest (g h) (go w a h.place r marks cs i)) →
      Enumerates w c (After w n m slots) marks bs count.longest (flat_map g (f s)) (go w (a + 1) s.place slots1 marks bs count)
  iterate g s slots slots1 marks bs count ok af next =
      bind w g (f s) (omega arith)
      (λ h r cs i ag.
      let back = after_trans w n m n m k m s h slots slots1 r (omega arith) (omega arith) (omega arith) (omega arith) af ag.0 in
      from w (step_at_pc w (Jmp a) b h.place r marks cs i jump)
      (weaken w (λ u t ah. after_trans w n m n m n m h u slots r t (omega arith) (omega arith) (omega arith) (omega arith) back ah)
      (next h r cs i (keeps s h ok ag.1).0 ag.1 ag.0)))
      (known w (λ h. Among h (f s)) (λ h m'. m') (p.enumerates s slots1 marks bs count ok af.stands))

  -- one more, as long as the count is below the largest number
  counted : (slots : Slots) → slots n < usize_max → min (slots n + 1) usize_max ≡ suc (slots n)
  counted slots lt = omega arith

  -- the slots with one more
  abbrev more : Slots → Slots
  more slots = put n (suc (slots n)) slots

  -- ---- a count up to a bound, which is the largest number where there is none
  module _ (greedy : Bool) (lo : ℕ) (hi : Option ℕ)
      (at : slice_get (body w) a ≡ Some (instr.Instr.Repeat greedy lo hi c n)) where
    leaves : (s : MatchState) (slots : Slots) (marks : List ℕ) (bs : List Branch) (count : Tally) → slots n ≡ unwrap_or hi usize_max →
        To (go w a s.place slots marks bs count) (go w c s.place slots marks bs count)
    leaves s slots marks bs count h =
        to_trans (step_at_pc w (instr.Instr.Repeat greedy lo hi c n) a s.place slots marks bs count at)
        (to_true w (slots n == unwrap_or hi usize_max) _ _ (eq-eqb (slots n) (unwrap_or hi usize_max) h))

    enters : (s : MatchState) (slots : Slots) (marks : List ℕ) (bs : List Branch) (count : Tally) → slots n ≢ unwrap_or hi usize_max →
        slots n < lo → slots n < usize_max →
        To (go w a s.place slots marks bs count) (go w (a + 1) s.place (put n (suc (slots n)) slots) marks bs count)
    enters s slots marks bs count h l lt =
        to_trans (step_at_pc w (instr.Instr.Repeat greedy lo hi c n) a s.place slots marks bs count at)
        (to_trans (to_false w (slots n == unwrap_or hi usize_max) _ _ (ne_eqb (slots n) (unwrap_or hi usize_max) h))
        (to_trans (to_false w (nat_le lo (slots n)) _ _ (lt-leb lo (slots n) l))
        (to_eq (λ j. ap (λ x. go w (a + 1) s.place (put n x slots) marks bs count j) (counted slots lt)))))

    chooses : (s : MatchState) (slots : Slots) (marks : List ℕ) (bs : List Branch) (count : Tally) → slots n ≢ unwrap_or hi usize_max →
        lo ≤ slots n → slots n < usize_max → To (go w a s.place slots marks bs count)
        (after w.task (fork w greedy (a + 1) c (here w a s.place (put n (suc (slots n)) slots) marks bs count)))
    chooses s slots marks bs count h l lt =
        to_trans (step_at_pc w (instr.Instr.Repeat greedy lo hi c n) a s.place slots marks bs count at)
        (to_trans (to_false w (slots n == unwrap_or hi usize_max) _ _ (ne_eqb (slots n) (unwrap_or hi usize_max) h))
        (to_trans (to_true w (nat_le lo (slots n)) _ _ (le-leb lo (slots n) l))
        (to_eq (λ j. ap (λ x. after w.task (choose w.task greedy c (here w a s.place (put n x slots) marks bs count)) j) (counted slots lt)
        ∙ ap (λ x. after w.task x j) (fork_choose w greedy c (here w a s.place (put n (suc (slots n)) slots) marks bs count))))))

    own : (s : MatchState) (slots : Slots) → Stands w s slots → After w n m slots s (put n (suc (slots n)) slots)
    own s slots st =
        after_put w n m n (suc (slots n)) s slots slots fresh (omega arith) (omega arith) (after_move w n m s slots st)

    kept : (slots r : Slots) (h : MatchState) → After w k m (put n (suc (slots n)) slots) h r → r n ≡ suc (slots n)
    kept slots r h af = af.keeps n (inr fresh) (inl (omega arith)) ∙ put_same slots n n (suc (slots n)) refl

    -- at most so many more
    may : (greatest : ℕ) → hi ≡ Some greatest → greatest < usize_max →
        (left : ℕ) (s : MatchState) (slots : Slots) (marks : List ℕ) (bs : List Branch) (count : Tally) →
        slots n + left ≡ greatest → lo ≤ slots n → Sound w s → Stands w s slots →
        Enumerates w c (After w n m slots) marks bs count.longest (at_most left greedy f s) (go w a s.place slots marks bs count)
    may greatest is below zero s slots marks bs count el le ok st =
        from w (leaves s slots marks bs count (sum is)) (one w slots count (after_move w n m s slots st) to_same)
      where
        sum : hi ≡ Some greatest → slots n ≡ unwrap_or hi usize_max
        sum e' = (let z : slots n ≡ greatest = omega arith in z) ∙ sym (ap (λ o. unwrap_or o usize_max) e')
    may greatest is below (suc left) s slots marks bs count el le ok st =
        let top : unwrap_or hi usize_max ≡ greatest = ap (λ o. unwrap_or o usize_max) is in
        let af = own s slots st in
        from w (chooses s slots marks bs count (λ q. omega (arith, top)) le (omega arith))
        (forked w greedy a (a + 1) c s.place (more slots) count (omega arith) (omega arith)
        (λ cs j.
        iterate (at_most left greedy f) s slots (more slots) marks cs j ok af
        (λ h r ds i so m' ag.
        let q = kept slots r h ag in may greatest is below left h r marks ds i (omega arith) (omega arith) so ag.stands))
        (λ cs j. one w (more slots) j af to_same))

    pub must : (greatest : ℕ) → hi ≡ Some greatest → greatest < usize_max → lo ≤ greatest →
        (need : ℕ) (s : MatchState) (slots : Slots) (marks : List ℕ) (bs : List Branch) (count : Tally) → slots n + need ≡ lo →
        Sound w s → Stands w s slots → Enumerates w c (After w n m slots) marks bs count.longest
        (required need f (at_most (greatest - lo) greedy f) s) (go w a s.place slots marks bs count)
    must greatest is below le zero s slots marks bs count el ok st =
        may greatest is below (greatest - lo) s slots marks bs count (omega arith) (omega arith) ok st
    must greatest is below le (suc need) s slots marks bs count el ok st =
        let top : unwrap_or hi usize_max ≡ greatest = ap (λ o. unwrap_or o usize_max) is in
        from w (enters s slots marks bs count (λ q. omega (arith, top)) (omega arith) (omega arith))
        (iterate (required need f (at_most (greatest - lo) greedy f)) s slots (more slots) marks bs count ok (own s slots st)
        (λ h r ds i so m' ag.
        let q = kept slots r h ag in must greatest is below le need h r marks ds i (omega arith) so ag.stands))

    -- ---- without a bound, over a body that moves: the count is at most the place
    module _ (open' : hi ≡ None) (moves : (s t : MatchState) → Sound w s → Among t (f s) → s.place < t.place)
        (fits : length (w.task).text < usize_max) where
      not_top : (x : ℕ) → x < usize_max → x ≢ unwrap_or hi usize_max
      not_top x lt q = let top : unwrap_or hi usize_max ≡ usize_max = ap (λ o. unwrap_or o usize_max) open' in omega (arith, top)

      free : (fuel : ℕ) (s : MatchState) (slots : Slots) (marks : List ℕ) (bs : List Branch) (count : Tally) →
          length (w.task).text < s.place + fuel → slots n ≤ s.place → lo ≤ slots n → Sound w s → Stands w s slots →
          Enumerates w c (After w n m slots) marks bs count.longest (unbounded fuel greedy f s) (go w a s.place slots marks bs count)
      free zero s slots marks bs count left le may' ok st = let q = sound_within w s ok in absurd (omega arith)
      free (suc fuel) s slots marks bs count left le may' ok st =
          let at_most_length = sound_within w s ok in
          let lt : slots n < usize_max = omega arith in
          let af = own s slots st in
          from w (chooses s slots marks bs count (not_top (slots n) lt) may' lt)
          (forked w greedy a (a + 1) c s.place (more slots) count (omega arith) (omega arith)
          (λ cs j. iterate (if_moved s (unbounded fuel greedy f)) s slots (more slots) marks cs j ok af (λ h r ds i so m' ag.
          let q = kept slots r h ag in
          let far = moves s h ok m' in
          subst
          (λ v.
          Enumerates w c (After w n m r) marks ds i.longest (if v then h ∷ [] else unbounded fuel greedy f h) (go w a h.place r marks ds i))
          (sym (ne_eqb h.place s.place (λ x. omega arith)))
          (free fuel h r marks ds i (omega arith) (omega arith) (omega arith) so ag.stands)))
          (λ cs j. one w (more slots) j af to_same))

      pub must_free : (need : ℕ) (s : MatchState) (slots : Slots) (marks : List ℕ) (bs : List Branch) (count : Tally) →
          slots n + need ≡ lo → slots n ≤ s.place → Sound w s → Stands w s slots → Enumerates w c (After w n m slots) marks bs count.longest
          (required need f (λ t. unbounded (suc (length (w.task).text) - t.place) greedy f t) s)
          (go w a s.place slots marks bs count)
      must_free zero s slots marks bs count el le ok st =
          let q = sound_within w s ok in
          free (suc (length (w.task).text) - s.place) s slots marks bs count (omega arith) le (omega arith) ok st
      must_free (suc need) s slots marks bs count el le ok st =
          let at_most_length = sound_within w s ok in
          let lt : slots n < usize_max = omega arith in
          from w (enters s slots marks bs count (not_top (slots n) lt) (omega arith) lt)
          (iterate (required need f (λ t. unbounded (suc (length (w.task).text) - t.place) greedy f t)) s slots
          (more slots) marks bs count ok (own s slots st) (λ h r ds i so m' ag.
          let q = kept slots r h ag in
          let far = moves s h ok m' in
          must_free need h r marks ds i (omega arith) (omega arith) so ag.stands))

  -- ---- with a check that the last iteration moved
  module _ (greedy : Bool) (lo : ℕ) (lk' : n + 1 < k) (at : slice_get (body w) a ≡ Some (RepeatEpsilon greedy lo c n (n + 1)))
      (small : lo < usize_max) (fits : length (w.task).text < usize_max) where
    stops : (s : MatchState) (slots : Slots) (marks : List ℕ) (bs : List Branch) (count : Tally) →
        (nat_lt lo (slots n) && slots (n + 1) == s.place) ≡ true →
        To (go w a s.place slots marks bs count) (go w c s.place slots marks bs count)
    stops s slots marks bs count h =
        to_trans (step_at_pc w (RepeatEpsilon greedy lo c n (n + 1)) a s.place slots marks bs count at)
        (to_true w (nat_lt lo (slots n) && slots (n + 1) == s.place) _ _ h)

    goes_on : (s : MatchState) (slots : Slots) (marks : List ℕ) (bs : List Branch) (count : Tally) → slots n < lo →
        slots n < usize_max → To (go w a s.place slots marks bs count) (go w (a + 1) s.place (more slots) marks bs count)
    goes_on s slots marks bs count l lt =
        to_trans (step_at_pc w (RepeatEpsilon greedy lo c n (n + 1)) a s.place slots marks bs count at)
        (to_trans
        (to_false w (nat_lt lo (slots n) && slots (n + 1) == s.place) _ _
        (ap (λ v. v && slots (n + 1) == s.place) (le-ltb lo (slots n) (omega arith))))
        (to_trans (to_false w (nat_le lo (slots n)) _ _ (lt-leb lo (slots n) l))
        (to_eq (λ j. ap (λ x. go w (a + 1) s.place (put n x slots) marks bs count j) (counted slots lt)))))

    -- the slots with the place too
    abbrev checked : ℕ → ℕ → Slots → Slots
    checked i x slots = put (n + 1) i (put n x slots)

    selects : (s : MatchState) (slots : Slots) (marks : List ℕ) (bs : List Branch) (count : Tally) →
        (nat_lt lo (slots n) && slots (n + 1) == s.place) ≡ false → lo ≤ slots n → To (go w a s.place slots marks bs count)
        (after w.task
        (fork w greedy (a + 1) c (here w a s.place (checked s.place (min (slots n + 1) usize_max) slots) marks bs count)))
    selects s slots marks bs count h l =
        to_trans (step_at_pc w (RepeatEpsilon greedy lo c n (n + 1)) a s.place slots marks bs count at)
        (to_trans (to_false w (nat_lt lo (slots n) && slots (n + 1) == s.place) _ _ h)
        (to_trans (to_true w (nat_le lo (slots n)) _ _ (le-leb lo (slots n) l))
        (to_eq
        (λ j.
        ap (λ x. after w.task x j)
        (fork_choose w greedy c (here w a s.place (checked s.place (min (slots n + 1) usize_max) slots) marks bs count))))))

    own_checked : (s : MatchState) (slots : Slots) (x : ℕ) → Stands w s slots → After w n m slots s (checked s.place x slots)
    own_checked s slots x st =
        after_put w n m (n + 1) s.place s slots (put n x slots) fresh (omega arith) (omega arith)
        (after_put w n m n x s slots slots fresh (omega arith) (omega arith) (after_move w n m s slots st))

    -- so many iterations may still move
    fresh_turns : (fuel : ℕ) (s : MatchState) (slots : Slots) (marks : List ℕ) (bs : List Branch) (count : Tally) →
        length (w.task).text < s.place + fuel → lo ≤ slots n → (nat_lt lo (slots n) && slots (n + 1) == s.place) ≡ false →
        Sound w s → Stands w s slots →
        Enumerates w c (After w n m slots) marks bs count.longest (unbounded fuel greedy f s) (go w a s.place slots marks bs count)
    fresh_turns zero s slots marks bs count left le test ok st = let q = sound_within w s ok in absurd (omega arith)
    fresh_turns (suc fuel) s slots marks bs count left le test ok st =
        let x = min (slots n + 1) usize_max in
        let slots1 = checked s.place x slots in
        let af = own_checked s slots x st in
        from w (selects s slots marks bs count test le)
        (forked w greedy a (a + 1) c s.place slots1 count (omega arith) (omega arith)
        (λ cs j. iterate (if_moved s (unbounded fuel greedy f)) s slots slots1 marks cs j ok af (λ h r ds i so m' ag.
        let count_is : r n ≡ x =
        ag.keeps n (inr fresh) (inl lk)
        ∙ put_other (put n x slots) (n + 1) n s.place (λ y. omega arith)
        ∙ put_same slots n n x refl in
        let check_is : r (n + 1) ≡ s.place =
        ag.keeps (n + 1) (inr (omega arith)) (inl lk') ∙ put_same (put n x slots) (n + 1) (n + 1) s.place refl in
        let is : (nat_lt lo (r n) && r (n + 1) == h.place) ≡ (s.place == h.place) =
        ap₂ (λ v y. v && y == h.place) (lt-ltb lo (r n) (omega arith)) check_is in
        let on = (keeps s h ok m').1 in
        let Goal : Bool → Type 0 =
        λ v.
        Enumerates w c (After w n m r) marks ds i.longest (if v then h ∷ [] else unbounded fuel greedy f h) (go w a h.place r marks ds i) in
        ⊎_elim {C = Enumerates w c (After w n m r) marks ds i.longest (if_moved s (unbounded fuel greedy f) h) (go w a h.place r marks ds i)}
        (λ t.
        subst Goal (sym t.0)
        (from w (stops h r marks ds i (is ∙ eq-eqb s.place h.place (sym t.1)))
        (one w r i (after_move w n m h r ag.stands) to_same)))
        (λ t.
        subst Goal (sym t.0)
        (let ne = t.1 in
        fresh_turns fuel h r marks ds i (omega arith) (omega arith) (is ∙ ne_eqb s.place h.place (λ y. ne (sym y))) so ag.stands))
        (eqb_tells h.place s.place)))
        (λ cs j. one w slots1 j af to_same))

    pub must_checked : (need : ℕ) (s : MatchState) (slots : Slots) (marks : List ℕ) (bs : List Branch) (count : Tally) →
        slots n + need ≡ lo → Sound w s → Stands w s slots → Enumerates w c (After w n m slots) marks bs count.longest
        (required need f (λ t. unbounded (suc (length (w.task).text) - t.place) greedy f t) s)
        (go w a s.place slots marks bs count)
    must_checked zero s slots marks bs count el ok st =
        let q = sound_within w s ok in
        fresh_turns (suc (length (w.task).text) - s.place) s slots marks bs count (omega arith) (omega arith)
        (ap (λ v. v && slots (n + 1) == s.place) (le-ltb lo (slots n) (omega arith))) ok st
    must_checked (suc need) s slots marks bs count el ok st =
        from w (goes_on s slots marks bs count (omega arith) (omega arith))
        (iterate (required need f (λ t. unbounded (suc (length (w.task).text) - t.place) greedy f t)) s slots (more slots) marks bs count ok
        (after_put w n m n (suc (slots n)) s slots slots fresh (omega arith) (omega arith) (after_move w n m s slots st))
        (λ h r ds i so m' ag.
        let q : r n ≡ suc (slots n) = ag.keeps n (inr fresh) (inl lk) ∙ put_same slots n n (suc (slots n)) refl in
        must_checked need h r marks ds i (omega arith) so ag.stands))
