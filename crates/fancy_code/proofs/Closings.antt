-- Constructs around a body, from what was written before it, the body, and what is written behind it.
use Rattle.std.proofs.Common.{◌≡◌, ℕ, ◌+◌, Bool, List, [], ◌∷◌, ◌++◌, length, refl, sym, ap, ap₂, ◌∙◌, subst, arith, append_assoc, append-nil, length-append}
use Rattle.std.specs.Prelude.{slice_set}
use Rattle.std.proofs.Math.Seq.{set-append_seam}
use Rattle.fancy_meaning.specs.Tree.{Tree}
use Rattle.fancy_meaning.specs.Instr.{Instr}
use Rattle.fancy_meaning.specs.Code.{Code, Laid, nothing, one, one_at, ◌>>◌}
use Rattle.fancy_meaning.specs.Constructs.{split}
use Rattle.fancy_code.specs.Sites.{Site}
use Rattle.fancy_expr.specs.Views.{bound_of}
use Rattle.fancy_code.specs.declared.around.Construct.{Construct}
use Rattle.fancy_code.specs.declared.around.Construct.TheVariants as around
use Rattle.fancy_code.specs.declared.loops.LoopKind.TheVariants as kind
use Rattle.fancy_code.specs.declared.around.Start.{Start}
use Rattle.fancy_code.specs.Arounds.{IsStart, around_code, opening, open_split, ahead, behind, not_ahead, not_behind}
use Rattle.fancy_code.specs.declared.writer.CodeWriter.{CodeWriter}
use Rattle.fancy_code.specs.Drafts.{Draft, Adds, Writes, with_patch, draft_of}
use Rattle.fancy_program.specs.Insns.{insn_of}
use Rattle.std.proofs.lemmas.List.{length-map}
use Rattle.fancy_code.proofs.Writing.{extended_length, adds_to, wrote_then}

-- an instruction behind some others is written over
module _ (p : Site) (es : List Tree) (s u : Draft) (pre below : List Instr) (y i j : Instr) (fresh place : ℕ) (at : place ≡ length s.instrs + length pre) where
  abbrev with_instr : Instr → Laid
  with_instr k = record { instrs = pre ++ k ∷ below; fresh = fresh }

  set_later : slice_set (s.instrs ++ (pre ++ y ∷ below)) place i ≡ s.instrs ++ (pre ++ i ∷ below)
  set_later =
      ap (λ n. slice_set (s.instrs ++ (pre ++ y ∷ below)) n i) (at ∙ sym (length-append s.instrs pre))
      ∙ ap (λ l. slice_set l (length (s.instrs ++ pre)) i) (sym (append_assoc s.instrs pre (y ∷ below)))
      ∙ set-append_seam (s.instrs ++ pre) y below i
      ∙ append_assoc s.instrs pre (i ∷ below)

  pub wrote_later : (length u.instrs ≡ length s.instrs + length pre + 1 + length below → i ≡ j) → Adds p (with_instr y) es s u
      → Adds p (with_instr j) es s (with_patch u place i)
  wrote_later known h =
      adds_to p p (with_instr y) (with_instr j) es es s u (with_patch u place i)
      (omega (arith, length-append pre (y ∷ below), length-append pre (j ∷ below)))
      (λ e. record {
        instrs = ap (λ l. slice_set l place i) e.instrs ∙ set_later ∙ ap (λ k. s.instrs ++ (pre ++ k ∷ below))
            (known (omega (arith, extended_length (with_instr y) s u e, length-append pre (y ∷ below))));
        fresh = e.fresh;
      })
      (λ x. x) (λ x z. z) h refl refl

module _ (p : Site) (body : Code) (es : List Tree) (s t u : Draft) (at : Start) (start : IsStart at s) where
  -- the three as one
  wrote_around : (first last : Code) (v : Draft) → Writes p first [] s t → Writes p body es t u → Writes p last [] u v → Writes p (first >> body >> last) es s v
  wrote_around first last v h g l =
      subst (λ ds. Writes p (first >> body >> last) ds s v) (append-nil es)
      (wrote_then p first (body >> last) [] (es ++ []) s t v h (wrote_then p body last es [] t u v g l))

  abbrev base : ℕ
  base = length s.instrs

  abbrev Ended : Construct → Draft → Type 0
  Ended a v = Writes p (around_code a body) es s v

  pub ended_group : (g : ℕ) (v : Draft) → Writes p (opening (around.Group g)) [] s t → Writes p body es t u
      → Writes p (one (Instr.SaveCaptureGroup g at.fresh)) [] u v → Ended (around.Group g) v
  ended_group g v h b l = wrote_around (opening (around.Group g)) (one (Instr.SaveCaptureGroup g s.fresh)) v h b
      (subst (λ n. Writes p (one (Instr.SaveCaptureGroup g n)) [] u v) start.fresh l)

  pub ended_atomic : (v : Draft) → Writes p (opening around.Atomic) [] s t → Writes p body es t u → Writes p (one Instr.EndAtomic) [] u v
      → Ended around.Atomic v
  ended_atomic v h b l = wrote_around (opening around.Atomic) (one Instr.EndAtomic) v h b l

  pub ended_ahead : (v : Draft) → Writes p (opening ahead) [] s t → Writes p body es t u → Writes p (one (Instr.Restore at.fresh)) [] u v → Ended ahead v
  ended_ahead v h b l = wrote_around (opening ahead) (one (Instr.Restore s.fresh)) v h b (subst (λ n. Writes p (one (Instr.Restore n)) [] u v) start.fresh l)

  -- the body stands behind two instructions
  second : base + 2 ≡ base + 1 + 1
  second = omega arith

  pub ended_behind : (n : ℕ) (v : Draft) → Writes p (opening (behind n)) [] s t → Writes p body es t u → Writes p (one (Instr.Restore at.fresh)) [] u v
      → Ended (behind n) v
  ended_behind n v h b l =
      let last = Instr.Restore s.fresh in
      let all = wrote_around (opening (behind n)) (one last) v h b (subst (λ m. Writes p (one (Instr.Restore m)) [] u v) start.fresh l) in
      subst (λ m. Adds p (record {
        instrs = Instr.Save s.fresh ∷ Instr.GoBack n ∷
            ((body m (s.fresh + 1)).instrs ++ last ∷ []);
        fresh = (body m (s.fresh + 1)).fresh;
      }) es s v) second all

  abbrev ends_negative : Instr
  ends_negative = Instr.FailNegativeLookAround

  -- the split before a negative look-around, with the places as they are counted
  split_is : (v : Draft) (n : ℕ) → length v.instrs ≡ base + 0 + 1 + n → Instr.Split (at.base + 1) (length v.instrs) ≡ Instr.Split (base + 1) (base + 1 + n)
  split_is v n e =
      let from : at.base + 1 ≡ base + 1 = omega (arith, start.base) in
      let to : length v.instrs ≡ base + 1 + n = omega (arith, e) in
      ap₂ Instr.Split from to

  first_place : at.base ≡ base + 0
  first_place = omega (arith, start.base)

  pub ended_not_ahead : (v : Draft) → Writes p (opening not_ahead) [] s t → Writes p body es t u → Writes p (one ends_negative) [] u v
      → Ended not_ahead (with_patch v at.base (Instr.Split (at.base + 1) (length v.instrs)))
  ended_not_ahead v h b l =
      let below = (body >> one ends_negative) (base + 1) s.fresh in
      wrote_later p es s v [] below.instrs open_split (Instr.Split (at.base + 1) (length v.instrs))
      (Instr.Split (base + 1) (base + 1 + length below.instrs)) below.fresh at.base first_place
      (split_is v (length below.instrs)) (wrote_around (opening not_ahead) (one ends_negative) v h b l)

  pub ended_not_behind : (n : ℕ) (v : Draft) → Writes p (opening (not_behind n)) [] s t → Writes p body es t u → Writes p (one ends_negative) [] u v
      → Ended (not_behind n) (with_patch v at.base (Instr.Split (at.base + 1) (length v.instrs)))
  ended_not_behind n v h b l =
      let below = ((one (Instr.GoBack n) >> body) >> one ends_negative) (base + 1) s.fresh in
      let all = wrote_around (opening (not_behind n)) (one ends_negative) v h b l in
      wrote_later p es s v [] below.instrs open_split (Instr.Split (at.base + 1) (length v.instrs))
      (Instr.Split (base + 1) (base + 1 + length below.instrs)) below.fresh at.base first_place
      (split_is v (length below.instrs))
      (subst (λ m. Adds p (record { instrs = open_split ∷ Instr.GoBack n ∷ ((body m s.fresh).instrs ++ ends_negative ∷ []); fresh = (body m s.fresh).fresh })
      es s v) second all)

  -- ---- loops

  -- the split of a loop
  loop_split_is : (greedy : Bool) (v : Draft) (n : ℕ) → length v.instrs ≡ base + 0 + 1 + n
      → split greedy (at.base + 1) (length v.instrs) ≡ split greedy (base + 1) (base + 1 + n)
  loop_split_is greedy v n e =
      let from : at.base + 1 ≡ base + 1 = omega (arith, start.base) in
      let to : length v.instrs ≡ base + 1 + n = omega (arith, e) in
      ap₂ (split greedy) from to

  pub ended_at_most_once : (greedy : Bool) → Writes p (opening (around.Loop kind.AtMostOnce greedy)) [] s t → Writes p body es t u
      → Ended (around.Loop kind.AtMostOnce greedy) (with_patch u at.base (split greedy (at.base + 1) (length u.instrs)))
  ended_at_most_once greedy h b =
      let below = body (base + 1) s.fresh in
      wrote_later p es s u [] below.instrs open_split (split greedy (at.base + 1) (length u.instrs))
      (split greedy (base + 1) (base + 1 + length below.instrs)) below.fresh at.base first_place
      (loop_split_is greedy u (length below.instrs)) (wrote_then p (one open_split) body [] es s t u h b)

  pub ended_star : (greedy : Bool) (v : Draft) → Writes p (opening (around.Loop kind.Star greedy)) [] s t → Writes p body es t u
      → Writes p (one (Instr.Jmp at.base)) [] u v → Ended (around.Loop kind.Star greedy) (with_patch v at.base (split greedy (at.base + 1) (length v.instrs)))
  ended_star greedy v h b l =
      let below = (body >> one (Instr.Jmp base)) (base + 1) s.fresh in
      wrote_later p es s v [] below.instrs open_split (split greedy (at.base + 1) (length v.instrs))
      (split greedy (base + 1) (base + 1 + length below.instrs)) below.fresh at.base first_place
      (loop_split_is greedy v (length below.instrs))
      (wrote_around (one open_split) (one (Instr.Jmp base)) v h b (subst (λ n. Writes p (one (Instr.Jmp n)) [] u v) start.base l))

  pub ended_plus : (greedy : Bool) (v : Draft) → Writes p (opening (around.Loop kind.Plus greedy)) [] s t → Writes p body es t u
      → Writes p (one (split greedy at.base (length u.instrs + 1))) [] u v → Ended (around.Loop kind.Plus greedy) v
  ended_plus greedy v h b l =
      let last : Code = one_at (λ here. split greedy base (here + 1)) in
      let all = wrote_around nothing last v h b (subst (λ n. Writes p (one (split greedy n (length u.instrs + 1))) [] u v) start.base l) in
      let none : base + 0 ≡ base = omega arith in
      subst (λ m. Adds p ((body >> last) m s.fresh) es s v) none all

  -- behind the instruction that clears the count
  later_place : at.base + 1 ≡ base + 1
  later_place = omega (arith, start.base)

  pub ended_epsilon : (greedy : Bool) (lo : ℕ) (v : Draft) → Writes p (opening (around.Loop (kind.Epsilon lo) greedy)) [] s t → Writes p body es t u
      → Writes p (one (Instr.Jmp (at.base + 1))) [] u v → Ended (around.Loop (kind.Epsilon lo) greedy)
      (with_patch v (at.base + 1) (Instr.RepeatEpsilon greedy lo (length v.instrs) at.fresh (at.fresh + 1)))
  ended_epsilon greedy lo v h b l =
      let jump = Instr.Jmp (base + 1) in
      let below = (body >> one jump) (base + 1 + 1) (s.fresh + 1 + 1) in
      let all = wrote_around (opening (around.Loop (kind.Epsilon lo) greedy)) (one jump) v h b
      (subst (λ n. Writes p (one (Instr.Jmp n)) [] u v) later_place l) in
      let head : ℕ → Instr = λ after. Instr.RepeatEpsilon greedy lo after s.fresh (s.fresh + 1) in
      wrote_later p es s v (Instr.Save0 s.fresh ∷ []) below.instrs open_split (Instr.RepeatEpsilon greedy lo (length v.instrs) at.fresh (at.fresh + 1))
      (head (base + 1 + 1 + length below.instrs)) below.fresh (at.base + 1) later_place
      (λ e. ap (λ n. Instr.RepeatEpsilon greedy lo (length v.instrs) n (n + 1)) start.fresh
      ∙ ap head (let to : length v.instrs ≡ base + 1 + 1 + length below.instrs = omega (arith, e) in to))
      (subst (λ m. Adds p (record {
        instrs = Instr.Save0 s.fresh ∷ open_split ∷
            ((body m (s.fresh + 1 + 1)).instrs ++ jump ∷ []);
        fresh = (body m (s.fresh + 1 + 1)).fresh;
      }) es s v) second all)

  pub ended_counted : (greedy : Bool) (lo hi : ℕ) (v : Draft) → Writes p (opening (around.Loop (kind.Counted lo hi) greedy)) [] s t → Writes p body es t u
      → Writes p (one (Instr.Jmp (at.base + 1))) [] u v → Ended (around.Loop (kind.Counted lo hi) greedy)
      (with_patch v (at.base + 1) (Instr.Repeat greedy lo (bound_of hi) (length v.instrs) at.fresh))
  ended_counted greedy lo hi v h b l =
      let jump = Instr.Jmp (base + 1) in
      let below = (body >> one jump) (base + 1 + 1) (s.fresh + 1) in
      let all = wrote_around (opening (around.Loop (kind.Counted lo hi) greedy)) (one jump) v h b
      (subst (λ n. Writes p (one (Instr.Jmp n)) [] u v) later_place l) in
      let head : ℕ → Instr = λ after. Instr.Repeat greedy lo (bound_of hi) after s.fresh in
      wrote_later p es s v (Instr.Save0 s.fresh ∷ []) below.instrs open_split (Instr.Repeat greedy lo (bound_of hi) (length v.instrs) at.fresh)
      (head (base + 1 + 1 + length below.instrs)) below.fresh (at.base + 1) later_place
      (λ e. ap (λ n. Instr.Repeat greedy lo (bound_of hi) (length v.instrs) n) start.fresh
      ∙ ap head (let to : length v.instrs ≡ base + 1 + 1 + length below.instrs = omega (arith, e) in to))
      (subst (λ m. Adds p (record {
        instrs = Instr.Save0 s.fresh ∷ open_split ∷
            ((body m (s.fresh + 1)).instrs ++ jump ∷ []);
        fresh = (body m (s.fresh + 1)).fresh;
      }) es s v) second all)

-- ---- what is read of a program in the making

pub laid_length : (c : CodeWriter) (n : ℕ) → n ≡ length c.code.items → length (draft_of c).instrs ≡ n
laid_length c n is = length-map c.code.items insn_of ∙ sym is

pub same_patch : (u : Draft) (at n : ℕ) (f : ℕ → Instr) (i : Instr) (w : Draft) → length u.instrs ≡ n → i ≡ f n → w ≡ with_patch u at i
    → with_patch u at (f (length u.instrs)) ≡ w
same_patch u at n f i w here is done = ap (λ m. with_patch u at (f m)) here ∙ ap (with_patch u at) (sym is) ∙ sym done
