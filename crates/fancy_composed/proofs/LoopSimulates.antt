-- The code of each form of a loop simulates its ways.
use Rattle.std.proofs.Common.{◌≡◌, ℕ, zero, suc, ◌+◌, ◌-◌, ◌<◌, ◌≤◌, Bool, true, false, ◌==◌, if◌then◌else◌, List, [], ◌∷◌, ◌++◌, length, IfSome, Option, Some, None, refl, sym, ap, ◌∙◌, arith, length-append}
use Rattle.std.proofs.lemmas.List.Concat.{flat_map_single}
use Rattle.std.proofs.Common.{map-id}
use Rattle.fancy_meaning.specs.MatchState.{MatchState, Ways, stays}
use Rattle.fancy_meaning.specs.Loops.{required, prefer, at_most, if_moved, unbounded, repeats}
use Rattle.fancy_meaning.specs.Numbers.{usize_max}
use Rattle.fancy_meaning.specs.Instr.{Instr, Jmp, RepeatEpsilon}
use Rattle.fancy_meaning.specs.Instr as instr
use Rattle.fancy_meaning.specs.Code.{Code, headed}
use Rattle.fancy_meaning.specs.Constructs.{split, loop_form, repeat_code, loop_code, epsilon_code, counted_code, Plus}
use Rattle.fancy_composed.proofs.Continuations.{Ground}
use Rattle.fancy_composed.proofs.Alike.{Alike, alike_same, alike_append, alike_bind}
use Rattle.fancy_composed.proofs.Parts.{Sound, body, Simulates, Keeps, handed_keeps, part_stays}
use Rattle.fancy_composed.proofs.Joins.{part_fork}
use Rattle.fancy_composed.proofs.Repeats.{Moves, part_star, part_plus, part_bounded, part_counted, part_checked}
use Rattle.fancy_composed.proofs.Simulates.{has_front, has_back, simulates_nothing, simulates_as}

alike_prefer : (greedy : Bool) (hs qs ks rs : List MatchState) → Alike hs qs → Alike ks rs →
    Alike (prefer greedy hs ks) (prefer greedy qs rs)
alike_prefer true hs qs ks rs a b = alike_append a b
alike_prefer false hs qs ks rs a b = alike_append b a

module _ (w : Ground) where
  -- of ways that are alike where a state is sound
  abbrev pub AlikeWays : Ways → Ways → Type 0
  AlikeWays f g = (s : MatchState) → Sound w s → Alike (f s) (g s)

  module _ (f g : Ways) (same : AlikeWays f g) (keeps : Keeps w g) (greedy : Bool) where
    alike_required : (n : ℕ) (k r : Ways) → AlikeWays k r → AlikeWays (required n f k) (required n g r)
    alike_required zero k r h s ok = h s ok
    alike_required (suc n) k r h s ok =
        alike_bind (required n f k) (required n g r) (same s ok) (λ x m. alike_required n k r h x (keeps s x ok m).0)

    alike_at_most : (n : ℕ) → AlikeWays (at_most n greedy f) (at_most n greedy g)
    alike_at_most zero s ok = alike_same (s ∷ [])
    alike_at_most (suc n) s ok =
        alike_prefer greedy _ _ (s ∷ []) (s ∷ [])
        (alike_bind (at_most n greedy f) (at_most n greedy g) (same s ok) (λ x m. alike_at_most n x (keeps s x ok m).0))
        (alike_same (s ∷ []))

    alike_unbounded : (n : ℕ) → AlikeWays (unbounded n greedy f) (unbounded n greedy g)
    alike_unbounded zero s ok = alike_same (s ∷ [])
    alike_unbounded (suc n) s ok =
        alike_prefer greedy _ _ (s ∷ []) (s ∷ [])
        (alike_bind (if_moved s (unbounded n greedy f)) (if_moved s (unbounded n greedy g)) (same s ok)
        (λ x m.
        let again = alike_unbounded n x (keeps s x ok m).0 in
        elim (x.place == s.place) as
        (λ v. Alike (if v then x ∷ [] else unbounded n greedy f x) (if v then x ∷ [] else unbounded n greedy g x)) [
          | true ↦ alike_same (x ∷ [])
          | false ↦ again
        ]))
        (alike_same (s ∷ []))

    pub alike_repeats : (text : List ℕ) (lo : ℕ) (hi : Option ℕ) →
        AlikeWays (repeats text lo hi greedy f) (repeats text lo hi greedy g)
    alike_repeats text lo None s ok = alike_required lo _ _ (λ t so. alike_unbounded (suc (length text) - t.place) t so) s ok
    alike_repeats text lo (Some hi) s ok = alike_required lo _ _ (λ t so. alike_at_most (hi - lo) t so) s ok

  -- the text of the task
  abbrev text : List ℕ
  text = (w.task).text

  module _ (greedy : Bool) (c : Code) (f : Ways) (p : Simulates w c f) (keeps : Keeps w f) (fits : length text < usize_max) where
    keeps' : Keeps w p.handed
    keeps' = handed_keeps w p keeps

    moves' : Moves w f → Moves w p.handed
    moves' moves s t ok m = moves s t ok ((p.alike s ok).members t m)

    simulates_once : Simulates w (headed (λ here after. split greedy (here + 1) after) c) (repeats text 0 (Some 1) greedy f)
    simulates_once =
        simulates_as w (repeats text 0 (Some 1) greedy f) one
        (λ s ok. ap (λ l. prefer greedy l (s ∷ [])) (sym (flat_map_single (λ t. t) (f s) ∙ map-id (f s))))
      where
        one : Simulates w (headed (λ here after. split greedy (here + 1) after) c) (λ s. prefer greedy (f s) (s ∷ []))
        one = record {
          grows = λ a n. p.grows (a + 1) n;
          handed = λ s. prefer greedy (p.handed s) (s ∷ []);
          alike = λ s ok. alike_prefer greedy (p.handed s) (f s) (s ∷ []) (s ∷ []) (p.alike s ok) (alike_same (s ∷ []));
          part = λ a b n e fresh h.
              let m = (c (a + 1) n).fresh in
              let u = p.grows (a + 1) n in
              let end : a + 1 + length (c (a + 1) n).instrs ≡ b = omega arith in
              part_fork w greedy a (a + 1) b b n m n m n m p.handed stays (h.0 ∙ ap (λ x. Some (split greedy (a + 1) x)) end)
              (omega arith) (omega arith) (omega arith) (omega arith) (omega arith) (omega arith)
              (p.part (a + 1) b n end fresh h.1) (part_stays w b n m);
        }

    simulates_star : Moves w f → Simulates w (loop_code (λ here after. split greedy (here + 1) after) c) (repeats text 0 None greedy f)
    simulates_star moves = record {
      grows = λ a n. p.grows (a + 1) n;
      handed = repeats text 0 None greedy p.handed;
      alike = alike_repeats p.handed f p.alike keeps greedy text 0 None;
      part = λ a b n e fresh h.
          let inner = (c (a + 1) n).instrs in
          let v = a + 1 + length inner in
          let end : v + 1 ≡ b = omega (arith, length-append inner (Jmp a ∷ [])) in
          let end' : a + 1 + length (inner ++ Jmp a ∷ []) ≡ b = omega arith in
          part_star w greedy a v b n (c (a + 1) n).fresh p.handed (h.0 ∙ ap (λ x. Some (split greedy (a + 1) x)) end')
          (has_back (body w) (a + 1) inner (Jmp a ∷ []) h.1).0 end (omega arith) keeps' (moves' moves)
          (p.part (a + 1) v n refl fresh (has_front (body w) (a + 1) inner (Jmp a ∷ []) h.1));
    }

    simulates_plus : Moves w f → Simulates w (repeat_code greedy c Plus) (repeats text 1 None greedy f)
    simulates_plus moves = record {
      grows = λ a n. p.grows a n;
      handed = repeats text 1 None greedy p.handed;
      alike = alike_repeats p.handed f p.alike keeps greedy text 1 None;
      part = λ a b n e fresh h.
          let inner = (c a n).instrs in
          let v = a + length inner in
          let end : v + 1 ≡ b = omega (arith, length-append inner (split greedy a (v + 1) ∷ [])) in
          part_plus w greedy a v b n (c a n).fresh p.handed
          ((has_back (body w) a inner (split greedy a (v + 1) ∷ []) h).0 ∙ ap (λ x. Some (split greedy a x)) end) end
          (omega arith) keeps' (moves' moves)
          (p.part a v n refl fresh (has_front (body w) a inner (split greedy a (v + 1) ∷ []) h));
    }

    pub simulates_epsilon : (lo : ℕ) → lo < usize_max → Simulates w (epsilon_code greedy lo c) (repeats text lo None greedy f)
    simulates_epsilon lo small = record {
      grows = λ a n. (let u = p.grows (a + 1 + 1) (n + 1 + 1) in omega arith);
      handed = repeats text lo None greedy p.handed;
      alike = alike_repeats p.handed f p.alike keeps greedy text lo None;
      part = λ a b n e fresh h.
          let inner = (c (a + 1 + 1) (n + 1 + 1)).instrs in
          let v = a + 1 + 1 + length inner in
          let u = p.grows (a + 1 + 1) (n + 1 + 1) in
          let end : v + 1 ≡ b = omega (arith, length-append inner (Jmp (a + 1) ∷ [])) in
          let end' : a + 1 + 1 + length (inner ++ Jmp (a + 1) ∷ []) ≡ b = omega arith in
          part_checked w greedy a v b n (n + 1 + 1) (c (a + 1 + 1) (n + 1 + 1)).fresh lo p.handed fresh u h.0
          (has_back (body w) (a + 1 + 1) inner (Jmp (a + 1) ∷ []) h.1.1).0 end (omega arith) keeps'
          (p.part (a + 1 + 1) v (n + 1 + 1) refl (omega arith) (has_front (body w) (a + 1 + 1) inner (Jmp (a + 1) ∷ []) h.1.1)) fits
          (omega arith) small (h.1.0 ∙ ap (λ x. Some (RepeatEpsilon greedy lo x n (n + 1))) end');
    }

    simulates_bounded : (lo hi : ℕ) → lo ≤ hi → hi < usize_max →
        Simulates w (counted_code greedy lo (Some hi) c) (repeats text lo (Some hi) greedy f)
    simulates_bounded lo hi le below = record {
      grows = λ a n. (let u = p.grows (a + 1 + 1) (n + 1) in omega arith);
      handed = repeats text lo (Some hi) greedy p.handed;
      alike = alike_repeats p.handed f p.alike keeps greedy text lo (Some hi);
      part = λ a b n e fresh h.
          let inner = (c (a + 1 + 1) (n + 1)).instrs in
          let v = a + 1 + 1 + length inner in
          let u = p.grows (a + 1 + 1) (n + 1) in
          let end : v + 1 ≡ b = omega (arith, length-append inner (Jmp (a + 1) ∷ [])) in
          let end' : a + 1 + 1 + length (inner ++ Jmp (a + 1) ∷ []) ≡ b = omega arith in
          part_bounded w greedy a v b n (n + 1) (c (a + 1 + 1) (n + 1)).fresh lo p.handed fresh u h.0
          (has_back (body w) (a + 1 + 1) inner (Jmp (a + 1) ∷ []) h.1.1).0 end (omega arith) keeps'
          (p.part (a + 1 + 1) v (n + 1) refl (omega arith) (has_front (body w) (a + 1 + 1) inner (Jmp (a + 1) ∷ []) h.1.1)) fits hi
          (omega arith) le below (h.1.0 ∙ ap (λ x. Some (instr.Instr.Repeat greedy lo (Some hi) x n)) end');
    }

    simulates_counted : (lo : ℕ) → Moves w f → Simulates w (counted_code greedy lo None c) (repeats text lo None greedy f)
    simulates_counted lo moves = record {
      grows = λ a n. (let u = p.grows (a + 1 + 1) (n + 1) in omega arith);
      handed = repeats text lo None greedy p.handed;
      alike = alike_repeats p.handed f p.alike keeps greedy text lo None;
      part = λ a b n e fresh h.
          let inner = (c (a + 1 + 1) (n + 1)).instrs in
          let v = a + 1 + 1 + length inner in
          let u = p.grows (a + 1 + 1) (n + 1) in
          let end : v + 1 ≡ b = omega (arith, length-append inner (Jmp (a + 1) ∷ [])) in
          let end' : a + 1 + 1 + length (inner ++ Jmp (a + 1) ∷ []) ≡ b = omega arith in
          part_counted w greedy a v b n (n + 1) (c (a + 1 + 1) (n + 1)).fresh lo p.handed fresh u h.0
          (has_back (body w) (a + 1 + 1) inner (Jmp (a + 1) ∷ []) h.1.1).0 end (omega arith) keeps'
          (p.part (a + 1 + 1) v (n + 1) refl (omega arith) (has_front (body w) (a + 1 + 1) inner (Jmp (a + 1) ∷ []) h.1.1)) fits
          (omega arith) (moves' moves) (h.1.0 ∙ ap (λ x. Some (instr.Instr.Repeat greedy lo None x n)) end');
    }

    -- by the form that the bounds ask for
    pub simulates_repeat : (lo : ℕ) (hi : Option ℕ) (may_be_empty : Bool) → lo < usize_max → IfSome hi (λ n. (lo ≤ n) × (n < usize_max)) →
        (may_be_empty ≡ false → Moves w f) →
        Simulates w (repeat_code greedy c (loop_form lo hi may_be_empty)) (repeats text lo hi greedy f)
    simulates_repeat zero (Some zero) v small fine moves =
        simulates_as w (repeats text 0 (Some 0) greedy f) (simulates_nothing w) (λ s ok. refl)
    simulates_repeat (suc lo) (Some zero) v small fine moves = absurd (omega (arith, fine))
    simulates_repeat zero (Some (suc zero)) v small fine moves = simulates_once
    simulates_repeat zero (Some (suc (suc hi))) v small fine moves = simulates_bounded 0 (suc (suc hi)) fine.0 fine.1
    simulates_repeat (suc lo) (Some (suc zero)) v small fine moves = simulates_bounded (suc lo) 1 fine.0 fine.1
    simulates_repeat (suc lo) (Some (suc (suc hi))) v small fine moves = simulates_bounded (suc lo) (suc (suc hi)) fine.0 fine.1
    simulates_repeat zero None true small fine moves = simulates_epsilon 0 small
    simulates_repeat (suc lo) None true small fine moves = simulates_epsilon (suc lo) small
    simulates_repeat zero None false small fine moves = simulates_star (moves refl)
    simulates_repeat (suc zero) None false small fine moves = simulates_plus (moves refl)
    simulates_repeat (suc (suc lo)) None false small fine moves = simulates_counted (suc (suc lo)) (moves refl)
