-- Where the parts of the whole program stand.
use Rattle.std.proofs.Common.{◌≡◌, ℕ, ◌+◌, ◌<◌, Bool, true, false, if◌then◌else◌, List, [], ◌∷◌, ◌++◌, length, Some, refl, sym, ap, ◌∙◌, subst, arith, append_assoc, length-append}
use Rattle.std.specs.Prelude.{slice_get}
use Rattle.std.proofs.Math.Seq.{get_or-append_seam}
use Rattle.std.proofs.lemmas.Option.{slice_get-get_or}
use Rattle.fancy_meaning.specs.Tree.{Tree}
use Rattle.fancy_meaning.specs.OpenCalls.{no_calls, free_calls}
use Rattle.fancy_meaning.specs.Options.{Plan}
use Rattle.fancy_meaning.specs.Instr.{Instr, Save, Jmp, SplitUnanchored, End, RejectEmptyMatchAtEOFFollowingNewline}
use Rattle.fancy_meaning.specs.Code.{Code, nothing, one, ◌>>◌}
use Rattle.fancy_meaning.specs.Layout.{program, root_code, called_code, first_fresh}
use Rattle.fancy_meaning.specs.Enumerates.{HasAt}
use Rattle.fancy_composed.proofs.Simulates.{has_front, has_back}
use Rattle.fancy_composed.proofs.Attempts.{EndsAt}

has_all : (is pre : List Instr) → HasAt (pre ++ is) (length pre) is
has_all [] pre = tt
has_all (i ∷ is) pre =
    let within : length pre < length (pre ++ i ∷ is) = omega (arith, length-append pre (i ∷ is)) in
    let here = slice_get-get_or (pre ++ i ∷ is) (length pre) i within ∙ ap Some (get_or-append_seam pre i is i) in
    let n : length (pre ++ i ∷ []) ≡ length pre + 1 = omega (arith, length-append pre (i ∷ [])) in
    let rest = has_all is (pre ++ i ∷ []) in
    let rest' = subst (λ l. HasAt l (length (pre ++ i ∷ [])) is) (append_assoc pre (i ∷ []) is) rest in
    (here, subst (λ m. HasAt (pre ++ i ∷ is) m is) n rest')

-- the program, where `easy` tells which nodes are left to a plain search
module _ (p : Plan) (easy : Tree → Bool) where
  -- the code of the whole tree
  abbrev pub root : Code
  root = root_code p easy (called_code p easy (free_calls p.analysis.tree no_calls) no_calls) false

  abbrev pub fresh : ℕ
  fresh = first_fresh p

  abbrev pub body : List Instr
  body = (program p easy).body

  abbrev search : Code
  search = one (SplitUnanchored 3 1) >> one Instr.Any >> one (Jmp 0)

  -- an attempt, by whether the end of the text is asked for
  abbrev attempt_code : Bool → Code
  attempt_code e =
      one (Save 0) >> root >> one (Save 1) >> (if e then one RejectEmptyMatchAtEOFFollowingNewline else nothing) >> one End

  -- where an attempt stands
  pub record Attempt (a : ℕ) : Type 0 where
    pub start : slice_get body a ≡ Some (Save 0)
    pub tree : HasAt body (a + 1) (root (a + 1) fresh).instrs
    pub end : slice_get body (a + 1 + length (root (a + 1) fresh).instrs) ≡ Some (Save 1)
    pub ends : EndsAt body p.end_text (a + 1 + length (root (a + 1) fresh).instrs + 1)

  attempt_at : (a : ℕ) (e : Bool) → p.end_text ≡ e → HasAt body a (attempt_code e a fresh).instrs → Attempt a
  attempt_at a e is h = record {
    start = h.0;
    tree = has_front body (a + 1) (root (a + 1) fresh).instrs _ h.1;
    end = (back e h).0;
    ends = subst (λ v. EndsAt body v (a + 1 + length (root (a + 1) fresh).instrs + 1)) (sym is) (ends_there e (back e h).1);
  }
    where
      back : (v : Bool) → HasAt body a (attempt_code v a fresh).instrs → HasAt body (a + 1 + length (root (a + 1) fresh).instrs)
          (Save 1 ∷ ((if v then one RejectEmptyMatchAtEOFFollowingNewline else nothing) 0 0).instrs ++ End ∷ [])
      back true k = has_back body (a + 1) (root (a + 1) fresh).instrs _ k.1
      back false k = has_back body (a + 1) (root (a + 1) fresh).instrs _ k.1

      ends_there : (v : Bool) → HasAt body (a + 1 + length (root (a + 1) fresh).instrs + 1)
          (((if v then one RejectEmptyMatchAtEOFFollowingNewline else nothing) 0 0).instrs ++ End ∷ []) →
          EndsAt body v (a + 1 + length (root (a + 1) fresh).instrs + 1)
      ends_there true k = (k.0, k.1.0)
      ends_there false k = k.0

  -- the program, by whether it is anchored, has a group 0 of its own, and asks for the end of the text
  abbrev shape : Bool → Bool → Bool → Code
  shape v x e =
      (if v then nothing else search) >> (if x then nothing else one (Save 0)) >> root >> (if x then nothing else one (Save 1))
      >> (if e then one RejectEmptyMatchAtEOFFollowingNewline else nothing) >> one End

  program_stands : HasAt body 0 (shape p.anchored p.analysis.explicit_capture_group_0 p.end_text 0 fresh).instrs
  program_stands = has_all (program p easy).body []

  module _ (implicit : p.analysis.explicit_capture_group_0 ≡ false) where
    shaped : (v e : Bool) → p.anchored ≡ v → p.end_text ≡ e → HasAt body 0 (shape v false e 0 fresh).instrs
    shaped v e is_v is_e =
        subst (λ y. HasAt body 0 (shape v false y 0 fresh).instrs) is_e
        (subst (λ y. HasAt body 0 (shape v y p.end_text 0 fresh).instrs) implicit
        (subst (λ y. HasAt body 0 (shape y p.analysis.explicit_capture_group_0 p.end_text 0 fresh).instrs) is_v program_stands))

    pub anchored_attempt : p.anchored ≡ true → Attempt 0
    anchored_attempt is = attempt_at 0 p.end_text refl (shaped true p.end_text is refl)

    -- the search, and an attempt behind it
    pub record Searching : Type 0 where
      pub split : slice_get body 0 ≡ Some (SplitUnanchored 3 1)
      pub any : slice_get body 1 ≡ Some Instr.Any
      pub back : slice_get body 2 ≡ Some (Jmp 0)
      pub attempt : Attempt 3

    pub search_stands : p.anchored ≡ false → Searching
    search_stands is =
        let h = shaped false p.end_text is refl in
        record { split = h.0; any = h.1.0; back = h.1.1.0; attempt = attempt_at 3 p.end_text refl h.1.1.1 }
