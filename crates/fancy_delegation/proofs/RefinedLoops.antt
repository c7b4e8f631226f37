-- Loops, whose bodies stand in a hard context, but for a loop of at most one iteration.
use Rattle.std.proofs.Common.{◌≡◌, ℕ, zero, suc, ◌-◌, Bool, true, false, if◌then◌else◌, ◌==◌, List, [], ◌∷◌, length, flat_map, Option, Some, None, refl, sym, ap, ◌∙◌, subst, subst₂, arith, map-id}
use Rattle.std.proofs.lemmas.List.Concat.{flat_map_single}
use Rattle.fancy_meaning.specs.MatchState.{MatchState, Ways}
use Rattle.fancy_meaning.specs.Loops.{required, prefer, at_most, if_moved, unbounded, repeats}
use Rattle.fancy_meaning.specs.Ways.{Setting}
use Rattle.fancy_meaning.specs.Options.{Plan}
use Rattle.fancy_meaning.specs.Keys.{key}
use Rattle.fancy_meaning.specs.Premises.{IsSoundState}
use Rattle.fancy_laws.proofs.Every.{Every, every_append, every_if}
use Rattle.fancy_delegation.proofs.Pairwise.{Pairwise}
use Rattle.fancy_delegation.proofs.Reduced.{Same}
use Rattle.fancy_delegation.proofs.AlikeLoops.{WaysAlike, if_moved_alike, at_most_alike, unbounded_alike}
use Rattle.fancy_delegation.proofs.KeyParts.{key_tells}
use Rattle.fancy_delegation.proofs.Evenly.{IsOnward, KeepsSound, sound_stays, sound_next}
use Rattle.fancy_delegation.proofs.IsRefined.{IsRefined, refined_same, refined_prefer, refined_flat_map}
use Rattle.fancy_delegation.proofs.Refined.{context_key, IsPart, EqualUpTo, part_next, key_equal_next, hard_key_equal}

every_prefer : {P : MatchState → Type 0} (greedy : Bool) {on off : List MatchState} → Every P on → Every P off → Every P (prefer greedy on off)
every_prefer true h k = every_append h k
every_prefer false h k = every_append k h

module _ (p : Plan) (q : Setting) where
  same_end : (s t : MatchState) → Same (key p) s t → s.place ≡ t.place
  same_end s t e = (key_tells p s t e).0

  part_after : (n : ℕ) (f rest : Ways) → IsPart p q f → IsPart p q rest → IsPart p q (required n f rest)
  part_after zero f rest part after = after
  part_after (suc n) f rest part after = part_next p q f (required n f rest) part (part_after n f rest part after)

  part_at_most : (n : ℕ) (greedy : Bool) (f : Ways) → IsPart p q f → IsPart p q (at_most n greedy f)
  part_at_most n greedy f part = record {
    sound = sound n;
    respects = at_most_alike (Same (key p)) same_end f f part.respects n greedy;
  }
    where
      sound : (n : ℕ) → KeepsSound q p.analysis.tree (at_most n greedy f)
      sound zero s ok = sound_stays q p.analysis.tree s ok
      sound (suc n) s ok =
          every_prefer greedy (sound_next q p.analysis.tree f (at_most n greedy f) part.sound (sound n) s ok)
          (sound_stays q p.analysis.tree s ok)

  part_unbounded : (n : ℕ) (greedy : Bool) (f : Ways) → IsPart p q f → IsPart p q (unbounded n greedy f)
  part_unbounded n greedy f part = record {
    sound = sound n;
    respects = unbounded_alike (Same (key p)) same_end f f part.respects n greedy;
  }
    where
      sound : (n : ℕ) → KeepsSound q p.analysis.tree (unbounded n greedy f)
      sound zero s ok = sound_stays q p.analysis.tree s ok
      sound (suc n) s ok =
          every_prefer greedy
          (sound_next q p.analysis.tree f (if_moved s (unbounded n greedy f)) part.sound
          (λ t ok'. every_if (t.place == s.place) (λ e. sound_stays q p.analysis.tree t ok') (λ e. sound n t ok')) s ok)
          (sound_stays q p.analysis.tree s ok)

  part_to_end : (greedy : Bool) (f : Ways) → IsPart p q f → IsPart p q (λ s. unbounded (suc (length q.text) - s.place) greedy f s)
  part_to_end greedy f part = record {
    sound = λ s. (part_unbounded (suc (length q.text) - s.place) greedy f part).sound s;
    respects = λ s t r.
        subst (λ i. Pairwise (Same (key p)) (unbounded (suc (length q.text) - s.place) greedy f s)
        (unbounded (suc (length q.text) - i) greedy f t)) (same_end s t r)
        ((part_unbounded (suc (length q.text) - s.place) greedy f part).respects s t r);
  }

  -- a loop of a part is one
  pub part_repeats : (lo : ℕ) (hi : Option ℕ) (greedy : Bool) (f : Ways) → IsPart p q f → IsPart p q (repeats q.text lo hi greedy f)
  part_repeats lo (Some hi) greedy f part = part_after lo f (at_most (hi - lo) greedy f) part (part_at_most (hi - lo) greedy f part)
  part_repeats lo None greedy f part = part_after lo f (λ s. unbounded (suc (length q.text) - s.place) greedy f s) part (part_to_end greedy f part)

  module _ (k f : Ways) (part : IsPart p q f) (body : EqualUpTo p q true k f) where
    key_equal_required : (n : ℕ) (rest rest' : Ways) → IsPart p q rest' → EqualUpTo p q true rest rest' →
        EqualUpTo p q true (required n k rest) (required n f rest')
    key_equal_required zero rest rest' after h = h
    key_equal_required (suc n) rest rest' after h =
        key_equal_next p q true k f (required n k rest) (required n f rest') part (part_after n f rest' part after) body
        (key_equal_required n rest rest' after h)

    -- on from each way of the body, or the loop is left
    key_equal_choice : (greedy : Bool) (s : MatchState) (again again' : Ways) → IsSoundState q p.analysis.tree s →
        WaysAlike (Same (key p)) again' again' →
        ((t : MatchState) → IsSoundState q p.analysis.tree t → IsRefined (Same (key p)) (again t) (again' t)) →
        IsRefined (Same (key p)) (prefer greedy (flat_map again (k s)) (s ∷ []))
        (prefer greedy (flat_map again' (f s)) (s ∷ []))
    key_equal_choice greedy s again again' ok respects next =
        refined_prefer greedy (flat_map again (k s)) (flat_map again' (f s)) (s ∷ []) (s ∷ [])
        (refined_flat_map {P = IsOnward q p.analysis.tree s} again again' (k s) (f s) respects
        (λ t on. next t on.sound) (part.sound s ok) (body.by s 0 ok (omega arith)))
        refined_same

    key_equal_at_most : (n : ℕ) (greedy : Bool) (s : MatchState) → IsSoundState q p.analysis.tree s →
        IsRefined (Same (key p)) (at_most n greedy k s) (at_most n greedy f s)
    key_equal_at_most zero greedy s ok = refined_same
    key_equal_at_most (suc n) greedy s ok =
        key_equal_choice greedy s (at_most n greedy k) (at_most n greedy f) ok (part_at_most n greedy f part).respects (key_equal_at_most n greedy)

    key_equal_unbounded : (n : ℕ) (greedy : Bool) (s : MatchState) → IsSoundState q p.analysis.tree s →
        IsRefined (Same (key p)) (unbounded n greedy k s) (unbounded n greedy f s)
    key_equal_unbounded zero greedy s ok = refined_same
    key_equal_unbounded (suc n) greedy s ok =
        key_equal_choice greedy s (if_moved s (unbounded n greedy k)) (if_moved s (unbounded n greedy f)) ok
        (if_moved_alike (Same (key p)) same_end f f part.respects (unbounded n greedy f)
        (unbounded n greedy f) s s refl (part_unbounded n greedy f part).respects)
        (λ t ok'. here t (t.place == s.place) (key_equal_unbounded n greedy t ok'))
      where
        here : (t : MatchState) (v : Bool) →
            IsRefined (Same (key p)) (unbounded n greedy k t) (unbounded n greedy f t) →
            IsRefined (Same (key p)) (if v then t ∷ [] else unbounded n greedy k t)
            (if v then t ∷ [] else unbounded n greedy f t)
        here t true h = refined_same
        here t false h = h

    key_equal_hard_loop : (lo : ℕ) (hi : Option ℕ) (greedy : Bool) → EqualUpTo p q true (repeats q.text lo hi greedy k) (repeats q.text lo hi greedy f)
    key_equal_hard_loop lo (Some hi) greedy =
        key_equal_required lo (at_most (hi - lo) greedy k) (at_most (hi - lo) greedy f) (part_at_most (hi - lo) greedy f part)
        (record { by = λ s from ok le. key_equal_at_most (hi - lo) greedy s ok })
    key_equal_hard_loop lo None greedy =
        key_equal_required lo (λ s. unbounded (suc (length q.text) - s.place) greedy k s)
        (λ s. unbounded (suc (length q.text) - s.place) greedy f s) (part_to_end greedy f part)
        (record { by = λ s from ok le. key_equal_unbounded (suc (length q.text) - s.place) greedy s ok })

    -- a loop, in whatever form it is written
    pub key_equal_loop : (in_hard : Bool) (lo : ℕ) (hi : Option ℕ) (greedy : Bool) →
        EqualUpTo p q in_hard (repeats q.text lo hi greedy k) (repeats q.text lo hi greedy f)
    key_equal_loop in_hard lo hi greedy =
        hard_key_equal p q in_hard (repeats q.text lo hi greedy k) (repeats q.text lo hi greedy f)
        (key_equal_hard_loop lo hi greedy)

  once : (greedy : Bool) (f : Ways) (s : MatchState) → prefer greedy (f s) (s ∷ []) ≡ repeats q.text 0 (Some 1) greedy f s
  once greedy f s = ap (λ l. prefer greedy l (s ∷ [])) (sym (flat_map_single (λ t. t) (f s) ∙ map-id (f s)))

  -- a loop of at most one iteration, whose body stands in the loop's own context
  pub key_equal_at_most_once : (in_hard greedy : Bool) (k f : Ways) → EqualUpTo p q in_hard k f →
      EqualUpTo p q in_hard (repeats q.text 0 (Some 1) greedy k) (repeats q.text 0 (Some 1) greedy f)
  key_equal_at_most_once in_hard greedy k f h = record {
    by = λ s from ok le.
        subst₂ (IsRefined (Same (context_key p in_hard from))) (once greedy k s) (once greedy f s)
        (refined_prefer greedy (k s) (f s) (s ∷ []) (s ∷ []) (h.by s from ok le) refined_same);
  }
