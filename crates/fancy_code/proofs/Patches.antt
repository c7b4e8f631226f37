-- Instructions that are written over once what follows stands.
use Rattle.std.proofs.Common.{◌≡◌, ℕ, ◌+◌, List, [], ◌∷◌, ◌++◌, length, refl, sym, ap, ◌∙◌, subst, arith, append_assoc, length-append, length-set}
use Rattle.std.specs.Prelude.{slice_set}
use Rattle.std.proofs.Math.Seq.{set-append_seam}
use Rattle.fancy_meaning.specs.Tree.{Tree}
use Rattle.fancy_meaning.specs.Instr.{Instr}
use Rattle.fancy_meaning.specs.Code.{Code, Laid, one, ◌>>◌, headed, branch}
use Rattle.fancy_code.specs.Sites.{Site}
use Rattle.fancy_code.specs.Drafts.{Draft, Extends, Adds, Writes, with_patch, with_jumps}
use Rattle.fancy_code.proofs.Writing.{extended_length, adds_by, adds_to, wrote_then}

module _ (p : Site) (es : List Tree) (s : Draft) (y : Instr) where
  -- the first instruction is written over
  module _ (below : Laid) (u : Draft) (i : Instr) (head : Laid → Instr)
      (known : Extends (record { instrs = y ∷ below.instrs; fresh = below.fresh }) s u → i ≡ head below) where
    pub wrote_head : Adds p (record { instrs = y ∷ below.instrs; fresh = below.fresh }) es s u
        → Adds p (record { instrs = head below ∷ below.instrs; fresh = below.fresh }) es s (with_patch u (length s.instrs) i)
    wrote_head h =
        adds_to p p (record { instrs = y ∷ below.instrs; fresh = below.fresh }) _ es es s u _ (omega arith)
        (λ e. record {
          instrs = ap (λ l. slice_set l (length s.instrs) i) e.instrs ∙ set-append_seam s.instrs y below.instrs i
              ∙ ap (λ k. s.instrs ++ k ∷ below.instrs) (known e);
          fresh = e.fresh;
        })
        (λ x. x) (λ x z. z) h refl refl

  -- an instruction that knows the place after the construct; `taken` is the first fresh slot behind it
  pub wrote_headed : (head : ℕ → ℕ → Instr) (body : Code) (taken : ℕ) (u : Draft)
      → Adds p (record { instrs = y ∷ (body (length s.instrs + 1) taken).instrs; fresh = (body (length s.instrs + 1) taken).fresh }) es s u
      → Adds p (headed head body (length s.instrs) taken) es s (with_patch u (length s.instrs) (head (length s.instrs) (length u.instrs)))
  wrote_headed head body taken u h =
      let below = body (length s.instrs + 1) taken in
      wrote_head below u (head (length s.instrs) (length u.instrs)) (λ l. head (length s.instrs) (length s.instrs + 1 + length l.instrs))
      (λ e. let end : length u.instrs ≡ length s.instrs + 1 + length below.instrs = omega (arith, extended_length _ s u e) in ap (head (length s.instrs)) end)
      h

-- ---- two branches

module _ (p : Site) (es ds : List Tree) (a b : Code) (s w z : Draft) (y : Instr) where
  abbrev here : ℕ
  here = length s.instrs + 1

  abbrev first : Laid
  first = a here s.fresh

  abbrev other : ℕ
  other = here + length first.instrs + 1

  -- the split and the first branch
  abbrev pub to_first : Laid
  to_first = record { instrs = Instr.Split here other ∷ first.instrs; fresh = first.fresh }

  abbrev second : Laid
  second = b other first.fresh

  pub wrote_branch : Adds p to_first es s w → Writes p (one y >> b) ds w z
      → Writes p (branch a b) (es ++ ds) s (with_patch z (length w.instrs) (Instr.Jmp (length z.instrs)))
  wrote_branch h g =
      let k : Instr = Instr.Split here other in
      adds_by p to_first ((one y >> b) (length w.instrs) w.fresh) (branch a b (length s.instrs) s.fresh) es ds s w z _
      (omega (arith, length-append first.instrs (Instr.Jmp (other + length second.instrs) ∷ second.instrs)))
      (λ e. omega (
        arith,
        ap (λ (l : Laid). length l.instrs) (second_at e),
        extended_length to_first s w e,
        length-append first.instrs
            (Instr.Jmp (other + length second.instrs) ∷ second.instrs),
      ))
      (λ e f.
      let flat : z.instrs ≡ (s.instrs ++ k ∷ first.instrs) ++ y ∷ second.instrs =
      f.instrs ∙ ap (λ (l : Laid). w.instrs ++ y ∷ l.instrs) (second_at e) ∙ ap (λ l. l ++ y ∷ second.instrs) e.instrs in
      let end : length z.instrs ≡ other + length second.instrs =
      omega (arith, ap length flat, length-append (s.instrs ++ k ∷ first.instrs) (y ∷ second.instrs), length-append s.instrs (k ∷ first.instrs)) in
      record {
        instrs = ap (λ l. slice_set l (length w.instrs) (Instr.Jmp (length z.instrs))) flat
            ∙ ap (λ n. slice_set ((s.instrs ++ k ∷ first.instrs) ++ y ∷ second.instrs) n (Instr.Jmp (length z.instrs))) (ap length e.instrs)
            ∙ set-append_seam (s.instrs ++ k ∷ first.instrs) y second.instrs (Instr.Jmp (length z.instrs))
            ∙ append_assoc s.instrs (k ∷ first.instrs) (Instr.Jmp (length z.instrs) ∷ second.instrs)
            ∙ ap (λ n. s.instrs ++ k ∷ (first.instrs ++ Instr.Jmp n ∷ second.instrs)) end;
        fresh = f.fresh ∙ ap (λ (l : Laid). l.fresh) (second_at e);
      })
      h g refl refl
    where
      second_at : Extends to_first s w → b (length w.instrs + 1) w.fresh ≡ second
      second_at e =
          let place : length w.instrs + 1 ≡ other = omega (arith, extended_length to_first s w e) in
          ap (λ n. b n w.fresh) place ∙ ap (b other) e.fresh

-- ---- jumps to the end

pub patched_length : (s : Draft) (at : ℕ) (i : Instr) → length (with_patch s at i).instrs ≡ length s.instrs
patched_length s at i = length-set s.instrs at i

pub with_jumps_last : (js : List ℕ) (j end : ℕ) (s : Draft) → with_jumps (js ++ j ∷ []) end s ≡ with_jumps js end (with_patch s j (Instr.Jmp end))
with_jumps_last [] j end s = refl
with_jumps_last (k ∷ js) j end s = ap (λ d. with_patch d k (Instr.Jmp end)) (with_jumps_last js j end s)

-- ---- two branches as they are written: the split is written over behind the first, the jump behind the second

module _ (p : Site) (es ds : List Tree) (a b : Code) (t t1 t2 t3 u : Draft) (split jump : ℕ) (y z : Instr) (split_is : split ≡ length t.instrs)
    (jump_is : jump ≡ length t2.instrs) where
  abbrev w : Draft
  w = with_patch t2 split (Instr.Split (split + 1) (jump + 1))

  abbrev to_target : Laid → Instr
  to_target below = Instr.Split (length t.instrs + 1) (length t.instrs + 1 + length below.instrs + 1)

  target : Extends ((one y >> a) (length t.instrs) t.fresh) t t2 → Instr.Split (split + 1) (jump + 1) ≡ to_target (a (length t.instrs + 1) t.fresh)
  target e =
      let from : split + 1 ≡ length t.instrs + 1 = omega (arith, split_is) in
      let to : jump + 1 ≡ length t.instrs + 1 + length (a (length t.instrs + 1) t.fresh).instrs + 1 = omega (arith, jump_is, extended_length _ t t2 e) in
      ap (λ n. Instr.Split n (jump + 1)) from ∙ ap (Instr.Split (length t.instrs + 1)) to

  pub wrote_both : Writes p (one y) [] t t1 → Writes p a es t1 t2 → Writes p (one z) [] w t3 → Writes p b ds t3 u
      → Writes p (branch a b) (es ++ ds) t (with_patch u jump (Instr.Jmp (length u.instrs)))
  wrote_both hy hx hz g =
      let below = a (length t.instrs + 1) t.fresh in
      let writing_from_start = wrote_head p es t y below t2 (Instr.Split (split + 1) (jump + 1)) to_target target
      (wrote_then p (one y) a [] es t t1 t2 hy hx) in
      let writing_from_start' = subst (λ n. Adds p (record { instrs = to_target below ∷ below.instrs; fresh = below.fresh }) es t
      (with_patch t2 n (Instr.Split (split + 1) (jump + 1)))) (sym split_is) writing_from_start in
      let all = wrote_branch p es ds a b t w u z writing_from_start' (wrote_then p (one z) b [] ds w t3 u hz g) in
      let place : length w.instrs ≡ jump = omega (arith, patched_length t2 split (Instr.Split (split + 1) (jump + 1)), jump_is) in
      subst (λ n. Writes p (branch a b) (es ++ ds) t (with_patch u n (Instr.Jmp (length u.instrs)))) place all
