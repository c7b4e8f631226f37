-- Parts by construct: choices, groups, atomic parts, look-around and conditionals.
use Rattle.std.proofs.Common.{◌≡◌, ℕ, ◌+◌, ◌*◌, ◌<◌, ◌≤◌, Bool, if◌then◌else◌, List, [], ◌∷◌, ◌++◌, length, map, flat_map, take, Option, Some, None, refl, sym, ap, ap₂, ◌∙◌, arith, inl, inr, ⊎_elim}
use Rattle.std.specs.Prelude.{slice_get}
use Rattle.std.proofs.lemmas.Bool.Decides.{eqb_tells}
use Rattle.fancy_meaning.specs.Enumerates.{start_number, end_number}
use Rattle.fancy_meaning.specs.Places.{is_place, back_by}
use Rattle.fancy_meaning.specs.Nodes.{group_count}
use Rattle.fancy_meaning.specs.MatchState.{MatchState, Ways, put, moved_to, with_span}
use Rattle.fancy_meaning.specs.Loops.{prefer}
use Rattle.fancy_meaning.specs.Instr.{Split, Jmp, Save, Restore, SaveCaptureGroupStart, SaveCaptureGroup, BeginAtomic, EndAtomic, FailNegativeLookAround, GoBack, Fail}
use Rattle.fancy_meaning.specs.Config.{Slots, Branch, Config, Goes, forward, at_ix}
use Rattle.fancy_meaning.specs.Machine.{goes_from, fail}
use Rattle.fancy_meaning.specs.Constructs.{split}
use Rattle.fancy_composed.proofs.Continuations.{Tally, To, to_same, to_eq, to_trans, after, Ground, here, go, failed, step_at_pc, pushed}
use Rattle.fancy_composed.proofs.Alike.{Among}
use Rattle.fancy_composed.proofs.Enumerates.{Enumerates, none, from, weaken, known, append, mapped, lead, cut, turned, forked, fork_split, chosen, from_first, where_none}
use Rattle.fancy_composed.proofs.Parts.{put_same, put_other, outside_state, outside_not, at_place, Sound, flag, first, body, flag_is, Stands, After, Part, after_trans, after_move, stands_put, stands_moved, part_wider, outside_more, whole}

module _ (w : Ground) where
  pub part_fails : (a b n m : ℕ) → slice_get (body w) a ≡ Some Fail → Part w a b n m (λ s. [])
  part_fails a b n m at = record {
    enumerates = λ s slots marks bs count ok st.
        none count
        (to_trans (step_at_pc w Fail a s.place slots marks bs count at)
        (failed w bs (here w a s.place slots marks bs count) refl));
  }

  -- two choices, in either order
  pub part_fork : (greedy : Bool) (x y z c n m i j k l : ℕ) (f g : Ways) → slice_get (body w) x ≡ Some (split greedy y z) →
      y ≤ c → z ≤ c → n ≤ i → j ≤ m → n ≤ k → l ≤ m → Part w y c i j f → Part w z c k l g →
      Part w x c n m (λ s. prefer greedy (f s) (g s))
  part_fork greedy x y z c n m i j k l f g at ly lz li lj lk ll p q = record {
    enumerates = λ s slots marks bs count ok st.
        from w
        (to_trans (step_at_pc w (split greedy y z) x s.place slots marks bs count at)
        (to_eq (λ e. ap (λ v. after w.task v e) (fork_split w greedy y z (here w x s.place slots marks bs count)))))
        (forked w greedy x y z s.place slots count ly lz
        (λ cs e. (part_wider w y c n m i j f li lj p).enumerates s slots marks cs e ok st)
        (λ cs e. (part_wider w z c n m k l g lk ll q).enumerates s slots marks cs e ok st));
  }

  -- an atomic part
  pub part_atomic : (a b c n m : ℕ) (f : Ways) → slice_get (body w) a ≡ Some BeginAtomic →
      slice_get (body w) b ≡ Some EndAtomic → b + 1 ≡ c → Part w (a + 1) b n m f → Part w a c n m (λ s. take 1 (f s))
  part_atomic a b c n m f begin end e p = record {
    enumerates = λ s slots marks bs count ok st.
        from w (step_at_pc w BeginAtomic a s.place slots marks bs count begin)
        (cut w end e (p.enumerates s slots (length (bs ++ w.base) ∷ marks) bs count ok st));
  }

  -- the state unchanged, where the part has no way
  pub part_unless : (a b c n m : ℕ) (f : Ways) → slice_get (body w) a ≡ Some (Split (a + 1) c) →
      slice_get (body w) b ≡ Some FailNegativeLookAround → b + 1 ≡ c → Part w (a + 1) b n m f →
      Part w a c n m (λ s. where_none (f s) s)
  part_unless a b c n m f at turn e p = record {
    enumerates = λ s slots marks bs count ok st.
        let x : Branch = record { pc = c; ix = s.place; slots = slots; marks = marks } in
        from w
        (to_trans (step_at_pc w (Split (a + 1) c) a s.place slots marks bs count at)
        (pushed w a c (a + 1) s.place s.place slots slots marks bs count))
        (turned w s slots turn e (after_move w n m s slots st) (p.enumerates s slots marks (x ∷ bs) count ok st));
  }

  restored : (a b c n m : ℕ) (s h : MatchState) (slots r : Slots) (marks : List ℕ) (cs : List Branch) (count : Tally) → Sound w s →
      first w ≤ n → n < m → slice_get (body w) b ≡ Some (Restore n) → b + 1 ≡ c → After w (n + 1) m (put n s.place slots) h r →
      After w n m slots (moved_to s.place h) r × To (go w b h.place r marks cs count) (go w c s.place r marks cs count)
  restored a b c n m s h slots r marks cs count ok fresh lt at e af =
      let v : r n ≡ s.place = af.keeps n (inr fresh) (inl (omega arith)) ∙ put_same slots n n s.place refl in
      let d : Config = here w b h.place r marks cs count in (
        record {
          stands = stands_moved w h s.place r af.stands;
          keeps = λ k lo out.
              af.keeps k lo (outside_more n m (n + 1) m k (omega arith) (omega arith) out)
              ∙ put_other slots n k s.place (outside_not n m n k (omega arith) lt out);
        },
        to_trans (step_at_pc w (Restore n) b h.place r marks cs count at)
            (to_eq (λ k. ap (λ x. after w.task (if is_place (w.task).text x then Goes (forward (at_ix x d)) else fail w.task d) k) v
            ∙ ap (λ t. after w.task (if t then Goes (forward (at_ix s.place d)) else fail w.task d) k) ok.place
            ∙ ap (λ x. go w x s.place r marks cs count k) e)),
      )

  -- the place restored after each way
  pub part_look : (a b c n m : ℕ) (f : Ways) → first w ≤ n → n < m → slice_get (body w) a ≡ Some (Save n) →
      slice_get (body w) b ≡ Some (Restore n) → b + 1 ≡ c → b ≤ c → Part w (a + 1) b (n + 1) m f →
      Part w a c n m (λ s. map (moved_to s.place) (f s))
  part_look a b c n m f fresh lt save restore e le p = record {
    enumerates = λ s slots marks bs count ok st.
        from w (step_at_pc w (Save n) a s.place slots marks bs count save)
        (mapped w (moved_to s.place) (λ h r. r) (f s) le
        (λ h r cs j af. restored a b c n m s h slots r marks cs j ok fresh lt restore e af)
        (p.enumerates s (put n s.place slots) marks bs count ok (stands_put w s slots n s.place fresh st)));
  }

  -- from a place so many characters before
  pub part_back : (i a b n m : ℕ) (f : Ways) → slice_get (body w) a ≡ Some (GoBack i) →
      ((s : MatchState) (j : ℕ) → Sound w s → back_by (w.task).text i s.place ≡ Some j → Sound w (moved_to j s)) →
      Part w (a + 1) b n m f → Part w a b n m (λ s. flat_map f (at_place s (back_by (w.task).text i s.place)))
  part_back i a b n m f at ok p = record {
    enumerates = λ s slots marks bs count so st.
        from w (step_at_pc w (GoBack i) a s.place slots marks bs count at)
        (goes s slots marks bs count so st (back_by (w.task).text i s.place) refl);
  }
    where
      goes : (s : MatchState) (slots : Slots) (marks : List ℕ) (bs : List Branch) (count : Tally) → Sound w s → Stands w s slots →
          (o : Option ℕ) → back_by (w.task).text i s.place ≡ o → Enumerates w b (After w n m slots) marks bs count.longest
          (flat_map f (at_place s o)) (after w.task (goes_from w.task (here w a s.place slots marks bs count) o))
      goes s slots marks bs count so st None e = none count (failed w bs (here w a s.place slots marks bs count) refl)
      goes s slots marks bs count so st (Some j) e =
          append w [] (f (moved_to j s)) [] tt
          (p.enumerates (moved_to j s) slots marks bs count (ok s j so e) (stands_moved w s j slots st)) (λ d. none d to_same)

  -- a condition
  pub part_if : (a b x v y z c n m i j k : ℕ) (f g e : Ways) → slice_get (body w) a ≡ Some BeginAtomic →
      slice_get (body w) (a + 1) ≡ Some (Split (a + 1 + 1) y) → slice_get (body w) b ≡ Some EndAtomic → b + 1 ≡ x →
      slice_get (body w) v ≡ Some (Jmp c) → slice_get (body w) y ≡ Some EndAtomic → y + 1 ≡ z → v ≤ c → n ≤ i → i ≤ j → j ≤ m →
      n ≤ k → k ≤ m → ((s t : MatchState) → Sound w s → Among t (f s) → Sound w t) → Part w (a + 1 + 1) b n i f →
      Part w x v i j g → Part w z c k m e → Part w a c n m (λ s. from_first (f s) g (e s))
  part_if a b x v y z c n m i j k f g e begin at end ex jump end' ez lv li lj ljm lk lkm keeps p q r = record {
    enumerates = λ s slots marks bs count ok st.
        let held : List ℕ = length (bs ++ w.base) ∷ marks in
        let br : Branch = record { pc = y; ix = s.place; slots = slots; marks = held } in
        from w (to_trans (step_at_pc w BeginAtomic a s.place slots marks bs count begin)
        (to_trans (step_at_pc w (Split (a + 1 + 1) y) (a + 1) s.place slots held bs count at)
        (pushed w (a + 1) y (a + 1 + 1) s.place s.place slots slots held bs count)))
        (chosen w x y z s slots g e end ex end' ez
        (λ h t o af.
        weaken w (λ u t' ag. after_trans w n m n i i j h u slots t t' (omega arith) (omega arith) li ljm af.0 ag)
        (lead w lv (λ u t' ds o' ag. step_at_pc w (Jmp c) v u.place t' marks ds o' jump)
        (q.enumerates h t marks bs o af.1 af.0.stands)))
        (λ o. (part_wider w z c n m k m e (omega arith) (omega arith) r).enumerates s slots marks bs o ok st)
        (known w (Sound w) (λ h m'. keeps s h ok m') (p.enumerates s slots held (br ∷ bs) count ok st)));
  }

  abbrev paired : ℕ → ℕ → ℕ → Slots → Slots
  paired g from to r = put (2 * g + 1) to (put (2 * g) from r)

  stands_paired : (g from : ℕ) (h : MatchState) (r : Slots) → 0 < g → g ≤ group_count (whole w) → Stands w h r →
      Stands w (with_span g (from, h.place) h) (paired g from h.place r)
  stands_paired g from h r pos le st = record {
    kept = other 0 (λ x. omega arith) (λ x. omega arith) ∙ st.kept;
    starts = λ i lo hi. ⊎_elim {C = paired g from h.place r (2 * i) ≡ start_number (put g (Some (from, h.place)) h.captures i)}
        (λ t. put_other (put (2 * g) from r) (2 * g + 1) (2 * i) h.place (λ x. omega arith)
        ∙ put_same r (2 * g) (2 * i) from (omega (arith, t.1))
        ∙ sym (ap start_number (put_same h.captures g i (Some (from, h.place)) t.1)))
        (λ t. other (2 * i) (λ x. t.1 (omega arith)) (λ x. omega arith)
        ∙ st.starts i lo hi
        ∙ sym (ap start_number (put_other h.captures g i (Some (from, h.place)) t.1)))
        (eqb_tells i g);
    ends = λ i lo hi. ⊎_elim {C = paired g from h.place r (2 * i + 1) ≡ end_number (put g (Some (from, h.place)) h.captures i)}
        (λ t. put_same (put (2 * g) from r) (2 * g + 1) (2 * i + 1) h.place (omega (arith, t.1))
        ∙ sym (ap end_number (put_same h.captures g i (Some (from, h.place)) t.1)))
        (λ t. other (2 * i + 1) (λ x. omega arith) (λ x. t.1 (omega arith))
        ∙ st.ends i lo hi
        ∙ sym (ap end_number (put_other h.captures g i (Some (from, h.place)) t.1)))
        (eqb_tells i g);
    flagged = λ e. other (flag w) (λ x. omega (arith, flag_is w)) (λ x. omega (arith, flag_is w)) ∙ st.flagged e;
  }
    where
      other : (k : ℕ) → (k ≡ 2 * g → ⊥) → (k ≡ 2 * g + 1 → ⊥) → paired g from h.place r k ≡ r k
      other k ne nf = put_other (put (2 * g) from r) (2 * g + 1) k h.place nf ∙ put_other r (2 * g) k from ne

  -- a group
  pub part_group : (g a b c n m : ℕ) (f : Ways) → 0 < g → g ≤ group_count (whole w) → first w ≤ n → n < m →
      slice_get (body w) a ≡ Some (SaveCaptureGroupStart g n) → slice_get (body w) b ≡ Some (SaveCaptureGroup g n) → b + 1 ≡ c →
      Part w (a + 1) b (n + 1) m f → Part w a c n m (λ s. map (λ t. with_span g (s.place, t.place) t) (f s))
  part_group g a b c n m f pos le fresh lt start end e p = record {
    enumerates = λ s slots marks bs count ok st.
        from w (step_at_pc w (SaveCaptureGroupStart g n) a s.place slots marks bs count start)
        (mapped w (λ t. with_span g (s.place, t.place) t) (λ h r. paired g s.place h.place r) (f s) (omega arith)
        (λ h r cs count' af.
        let v : r n ≡ s.place = af.keeps n (inr fresh) (inl (omega arith)) ∙ put_same slots n n s.place refl in (
          record {
            stands = stands_paired g s.place h r pos le af.stands;
            keeps = λ k lo out.
                put_other (put (2 * g) s.place r) (2 * g + 1) k h.place
                (outside_state w k (2 * g + 1) lo (λ x. omega arith) (omega (arith, flag_is w)))
                ∙ put_other r (2 * g) k s.place (outside_state w k (2 * g) lo (λ x. omega arith) (omega (arith, flag_is w)))
                ∙ af.keeps k lo (outside_more n m (n + 1) m k (omega arith) (omega arith) out)
                ∙ put_other slots n k s.place (outside_not n m n k (omega arith) lt out);
          },
          to_trans (step_at_pc w (SaveCaptureGroup g n) b h.place r marks cs count' end)
              (to_eq (λ k. ap₂ (λ o x. go w x h.place (paired g o h.place r) marks cs count' k) v e)),
        ))
        (p.enumerates s (put n s.place slots) marks bs count ok (stands_put w s slots n s.place fresh st)));
  }
