-- Each form of a loop as a part.
use Rattle.std.proofs.Common.{◌≡◌, ℕ, zero, suc, ◌+◌, ◌-◌, ◌<◌, ◌≤◌, Bool, if◌then◌else◌, List, [], ◌∷◌, length, Some, None, refl, sym, ap, subst, arith}
use Rattle.std.specs.Prelude.{slice_get}
use Rattle.std.proofs.lemmas.Bool.{ne_eqb}
use Rattle.fancy_meaning.specs.MatchState.{MatchState, Ways, put}
use Rattle.fancy_meaning.specs.Loops.{if_moved, unbounded, repeats}
use Rattle.fancy_meaning.specs.Numbers.{usize_max}
use Rattle.fancy_meaning.specs.Constructs.{split}
use Rattle.fancy_meaning.specs.Instr.{Instr, Jmp, Save0, RepeatEpsilon}
use Rattle.fancy_meaning.specs.Instr as instr
use Rattle.fancy_meaning.specs.Config.{Slots, Branch}
use Rattle.fancy_composed.proofs.Continuations.{Tally, To, to_same, to_eq, to_trans, after, Ground, here, go, step_at_pc}
use Rattle.fancy_composed.proofs.Alike.{Among}
use Rattle.fancy_composed.proofs.Enumerates.{Enumerates, from, one, weaken, known, bind, forked, fork_split}
use Rattle.fancy_composed.proofs.Parts.{sound_within, put_same, Sound, Keeps, first, body, Stands, After, Part, after_trans, after_move, after_put, stands_put}
use Rattle.fancy_composed.proofs.Loops.{must, must_free, must_checked}

-- each way leads on
abbrev pub Moves : (w : Ground) → Ways → Type 0
Moves w f = (s t : MatchState) → Sound w s → Among t (f s) → s.place < t.place

-- the choice is at x; the body is from y to z, and from z the machine comes back to x
module _ (w : Ground) (x y z c n m : ℕ) (f : Ways) (greedy : Bool) (at : slice_get (body w) x ≡ Some (split greedy y c))
    (ly : y ≤ c) (lz : z ≤ c)
    (back : (h : MatchState) (r : Slots) (marks : List ℕ) (cs : List Branch) (i : Tally) → To (go w z h.place r marks cs i) (go w x h.place r marks cs i))
    (keeps : Keeps w f) (moves : Moves w f) (p : Part w y z n m f) where
  plain : (fuel : ℕ) (s : MatchState) (slots : Slots) (marks : List ℕ) (bs : List Branch) (count : Tally) →
      length (w.task).text < s.place + fuel → Sound w s → Stands w s slots →
      Enumerates w c (After w n m slots) marks bs count.longest (unbounded fuel greedy f s) (go w x s.place slots marks bs count)
  plain zero s slots marks bs count left ok st = let q = sound_within w s ok in absurd (omega arith)
  plain (suc fuel) s slots marks bs count left ok st =
      from w
      (to_trans (step_at_pc w (split greedy y c) x s.place slots marks bs count at)
      (to_eq (λ k. ap (λ v. after w.task v k) (fork_split w greedy y c (here w x s.place slots marks bs count)))))
      (forked w greedy x y c s.place slots count ly (omega arith)
      (λ cs j. bind w (if_moved s (unbounded fuel greedy f)) (f s) lz
      (λ h r ds k q.
      let far = moves s h ok q.1 in
      from w (back h r marks ds k)
      (subst
      (λ v. Enumerates w c (After w n m slots) marks ds k.longest (if v then h ∷ [] else unbounded fuel greedy f h) (go w x h.place r marks ds k))
      (sym (ne_eqb h.place s.place (λ e. omega arith)))
      (weaken w
      (λ u t ag. after_trans w n m n m n m h u slots r t (omega arith) (omega arith) (omega arith) (omega arith) q.0 ag)
      (plain fuel h r marks ds k (omega arith) (keeps s h ok q.1).0 q.0.stands))))
      (known w (λ h. Among h (f s)) (λ h m'. m') (p.enumerates s slots marks cs j ok st)))
      (λ cs j. one w slots j (after_move w n m s slots st) to_same))

module _ (w : Ground) (greedy : Bool) where
  -- the text of the task
  abbrev text : List ℕ
  text = (w.task).text

  pub part_star : (a b c n m : ℕ) (f : Ways) → slice_get (body w) a ≡ Some (split greedy (a + 1) c) →
      slice_get (body w) b ≡ Some (Jmp a) → b + 1 ≡ c → a + 1 ≤ b → Keeps w f → Moves w f → Part w (a + 1) b n m f →
      Part w a c n m (repeats text 0 None greedy f)
  part_star a b c n m f at jump e ord keeps moves p = record {
    enumerates = λ s slots marks bs count ok st.
        let q = sound_within w s ok in
        plain w a (a + 1) b c n m f greedy at (omega arith) (omega arith)
        (λ h r ms cs i. step_at_pc w (Jmp a) b h.place r ms cs i jump) keeps moves p
        (suc (length text) - s.place) s slots marks bs count (omega arith) ok st;
  }

  pub part_plus : (a b c n m : ℕ) (f : Ways) → slice_get (body w) b ≡ Some (split greedy a c) → b + 1 ≡ c → a ≤ b → Keeps w f →
      Moves w f → Part w a b n m f → Part w a c n m (repeats text 1 None greedy f)
  part_plus a b c n m f at e ord keeps moves p = record {
    enumerates = λ s slots marks bs count ok st.
        bind w (repeats text 0 None greedy f) (f s) (omega arith)
        (λ h r cs i af.
        let so = (keeps s h ok af.1).0 in
        let q = sound_within w h so in
        weaken w
        (λ u t ag. after_trans w n m n m n m h u slots r t (omega arith) (omega arith) (omega arith) (omega arith) af.0 ag)
        (plain w b a b c n m f greedy at (omega arith) (omega arith) (λ k t ms ds j. to_same) keeps moves p
        (suc (length text) - h.place) h r marks cs i (omega arith) so af.0.stands))
        (known w (λ h. Among h (f s)) (λ h m'. m') (p.enumerates s slots marks bs count ok st));
  }

  -- a loop that begins with its count at 0
  begins : (a c n m : ℕ) (g : Ways) → first w ≤ n → n < m → slice_get (body w) a ≡ Some (Save0 n) →
      ((s : MatchState) (slots : Slots) (marks : List ℕ) (bs : List Branch) (count : Tally) → slots n ≡ 0 → Sound w s →
      Stands w s slots → Enumerates w c (After w n m slots) marks bs count.longest (g s) (go w (a + 1) s.place slots marks bs count)) →
      Part w a c n m g
  begins a c n m g fresh lt save next = record {
    enumerates = λ s slots marks bs count ok st.
        let r : Slots = put n 0 slots in
        let st1 = stands_put w s slots n 0 fresh st in
        let af = after_put w n m n 0 s slots slots fresh (omega arith) lt (after_move w n m s slots st) in
        from w (step_at_pc w (Save0 n) a s.place slots marks bs count save)
        (weaken w
        (λ h t ag. after_trans w n m n m n m s h slots r t (omega arith) (omega arith) (omega arith) (omega arith) af ag)
        (next s r marks bs count (put_same slots n n 0 refl) ok st1));
  }

  module _ (a b c n k m lo : ℕ) (f : Ways) (fresh : first w ≤ n) (km : k ≤ m) (save : slice_get (body w) a ≡ Some (Save0 n))
      (jump : slice_get (body w) b ≡ Some (Jmp (a + 1))) (e : b + 1 ≡ c) (ord : a + 1 + 1 ≤ b) (keeps : Keeps w f)
      (p : Part w (a + 1 + 1) b k m f) (fits : length text < usize_max) where
    pub part_bounded : (hi : ℕ) → n < k → lo ≤ hi → hi < usize_max →
        slice_get (body w) (a + 1) ≡ Some (instr.Instr.Repeat greedy lo (Some hi) c n) →
        Part w a c n m (repeats text lo (Some hi) greedy f)
    part_bounded hi lk le below at =
        begins a c n m (repeats text lo (Some hi) greedy f) fresh (omega arith) save
        (λ s slots marks bs count z ok st.
        must w (a + 1) b c n k m f fresh lk km jump e ord keeps p greedy lo
        (Some hi) at hi refl below le lo s slots marks bs count (omega arith) ok st)

    pub part_counted : n < k → Moves w f → slice_get (body w) (a + 1) ≡ Some (instr.Instr.Repeat greedy lo None c n) →
        Part w a c n m (repeats text lo None greedy f)
    part_counted lk moves at =
        begins a c n m (repeats text lo None greedy f) fresh (omega arith) save
        (λ s slots marks bs count z ok st.
        must_free w
        (a + 1) b c n k m f fresh lk km jump e ord keeps p greedy lo None at refl moves fits lo s slots marks bs count
        (omega arith) (omega arith) ok st)

    pub part_checked : n + 1 < k → lo < usize_max → slice_get (body w) (a + 1) ≡ Some (RepeatEpsilon greedy lo c n (n + 1)) →
        Part w a c n m (repeats text lo None greedy f)
    part_checked lk small at =
        begins a c n m (repeats text lo None greedy f) fresh (omega arith) save
        (λ s slots marks bs count z ok st.
        must_checked w (a + 1) b c n k m f fresh
        (omega arith) km jump e ord keeps p greedy lo lk at small fits lo s slots marks bs count (omega arith) ok st)
