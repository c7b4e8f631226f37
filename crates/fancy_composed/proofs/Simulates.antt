-- Code that simulates its ways wherever it stands, by construct.
use Rattle.std.proofs.Common.{◌≡◌, ℕ, ◌+◌, ◌<◌, ◌≤◌, true, not, is_some, if◌then◌else◌, List, [], ◌∷◌, ◌++◌, length, map, flat_map, take, Option, Some, None, option_to_list, refl, sym, ap, ◌∙◌, subst, arith, length-append}
use Rattle.std.specs.Prelude.{slice_get}
use Rattle.fancy_meaning.specs.Nodes.{group_count}
use Rattle.fancy_meaning.specs.Places.{back_by}
use Rattle.fancy_meaning.specs.MatchState.{MatchState, Ways, stays, fails, and_then, moved_to}
use Rattle.fancy_meaning.specs.Ways.{captured, ahead, unless, atomic, conditional}
use Rattle.fancy_meaning.specs.Instr.{Instr, Split, Jmp, Restore, SaveCaptureGroup, EndAtomic, FailNegativeLookAround, GoBack, Fail}
use Rattle.fancy_meaning.specs.Code.{Code, nothing, one, ◌>>◌, branch}
use Rattle.fancy_meaning.specs.Constructs.{group_code, atomic_code, conditional_code, look_code, negative_look_code}
use Rattle.fancy_meaning.specs.Machine.{step, goes_from}
use Rattle.fancy_meaning.specs.Enumerates.{HasAt}
use Rattle.fancy_composed.proofs.Continuations.{Tally, Ground, here}
use Rattle.fancy_composed.proofs.Alike.{Among, Alike, alike_same, alike_eq, alike_trans, alike_append, alike_bind, alike_map, alike_head, head_of, at_head}
use Rattle.fancy_composed.proofs.Enumerates.{from_first, where_none, lead}
use Rattle.fancy_composed.proofs.Parts.{at_place, Sound, body, whole, Stands, Part, Simulates, Keeps, handed_keeps, part_stays, part_next, part_moves}
use Rattle.fancy_composed.proofs.Joins.{part_fails, part_fork, part_atomic, part_unless, part_look, part_back, part_if, part_group}
use Rattle.fancy_composed.proofs.Continuations.{step_at_pc}

pub has_front : (code : List Instr) (pc : ℕ) (a b : List Instr) → HasAt code pc (a ++ b) → HasAt code pc a
has_front code pc [] b h = tt
has_front code pc (i ∷ a) b h = (h.0, has_front code (pc + 1) a b h.1)

pub has_back : (code : List Instr) (pc : ℕ) (a b : List Instr) → HasAt code pc (a ++ b) → HasAt code (pc + length a) b
has_back code pc [] b h = let e : pc ≡ pc + 0 = omega arith in subst (λ n. HasAt code n b) e h
has_back code pc (i ∷ a) b h =
    let e : pc + 1 + length a ≡ pc + length (i ∷ a) = omega arith in
    subst (λ n. HasAt code n b) e (has_back code (pc + 1) a b h.1)

-- ---- ways by the first of a list

take_head : (hs : List MatchState) → take 1 hs ≡ option_to_list (head_of hs)
take_head [] = refl
take_head (h ∷ hs) = refl

none_head : (hs : List MatchState) (s : MatchState) → where_none hs s ≡ (if is_some (head_of hs) then [] else s ∷ [])
none_head [] s = refl
none_head (h ∷ hs) s = refl

unless_is : (hs : List MatchState) (s : MatchState) → where_none hs s ≡ (if not (is_some (slice_get hs 0)) then s ∷ [] else [])
unless_is [] s = refl
unless_is (h ∷ hs) s = refl

pub conditional_is : (c t f : Ways) (s : MatchState) (hs : List MatchState) → c s ≡ hs →
    conditional c t f s ≡ from_first hs t (f s)
conditional_is c t f s [] e = rw e refl
conditional_is c t f s (h ∷ hs) e = rw e refl

alike_from_first : (hs qs : List MatchState) (f g : Ways) (ks rs : List MatchState) → head_of hs ≡ head_of qs →
    ((x : MatchState) → Among x qs → Alike (f x) (g x)) → Alike ks rs → Alike (from_first hs f ks) (from_first qs g rs)
alike_from_first [] [] f g ks rs e a b = b
alike_from_first [] (q ∷ qs) f g ks rs e a b = cc
alike_from_first (h ∷ hs) [] f g ks rs e a b = cc
alike_from_first (h ∷ hs) (q ∷ qs) f g ks rs e a b =
    let same : h ≡ q = cc in subst (λ x. Alike (f x) (g q)) (sym same) (a q at_head)

module _ (w : Ground) where
  part_jump : (a v c n m : ℕ) (f : Ways) → slice_get (body w) v ≡ Some (Jmp c) → v ≤ c → Part w a v n m f → Part w a c n m f
  part_jump a v c n m f at le p = record {
    enumerates = λ s slots marks bs count ok st.
        lead w le (λ h r ds i af. step_at_pc w (Jmp c) v h.place r marks ds i at) (p.enumerates s slots marks bs count ok st);
  }

  pub simulates_alike : {c : Code} {f : Ways} (g : Ways) → Simulates w c f → ((s : MatchState) → Sound w s → Alike (f s) (g s)) →
      Simulates w c g
  simulates_alike g p same = record {
    grows = p.grows;
    handed = p.handed;
    alike = λ s ok. alike_trans (p.alike s ok) (same s ok);
    part = p.part;
  }

  pub simulates_as : {c : Code} {f : Ways} (g : Ways) → Simulates w c f → ((s : MatchState) → Sound w s → f s ≡ g s) → Simulates w c g
  simulates_as g p same = simulates_alike g p (λ s ok. alike_eq (same s ok))

  pub simulates_nothing : Simulates w nothing stays
  simulates_nothing = record {
    grows = λ a n. omega arith;
    handed = stays;
    alike = λ s ok. alike_same (stays s);
    part = λ a b n e fresh h. (let q : a ≡ b = omega arith in subst (λ x. Part w a x n n stays) q (part_stays w a n n));
  }

  -- an instruction that moves on or fails
  pub simulates_moves : (i : Instr) (f : MatchState → Option ℕ) →
      ((s : MatchState) (slots : _) (a : ℕ) (marks : List ℕ) (bs : List _) (count : Tally) → Sound w s → Stands w s slots →
      step w.task i (here w a s.place slots marks bs count) ≡ goes_from w.task (here w a s.place slots marks bs count) (f s)) →
      Simulates w (one i) (λ s. at_place s (f s))
  simulates_moves i f does = record {
    grows = λ a n. omega arith;
    handed = λ s. at_place s (f s);
    alike = λ s ok. alike_same (at_place s (f s));
    part = λ a b n e fresh h.
        part_moves w a b n n i f h.0 e (λ s slots marks bs count ok st. does s slots a marks bs count ok st);
  }

  pub simulates_fails : Simulates w (one Fail) fails
  simulates_fails = record {
    grows = λ a n. omega arith;
    handed = fails;
    alike = λ s ok. alike_same [];
    part = λ a b n e fresh h. part_fails w a b n n h.0;
  }

  pub simulates_next : (c d : Code) (f g : Ways) → Simulates w c f → Keeps w f → Simulates w d g → Simulates w (c >> d) (and_then f g)
  simulates_next c d f g p keeps q = record {
    grows = λ a n. (let u = p.grows a n in let v = q.grows (a + length (c a n).instrs) (c a n).fresh in omega arith);
    handed = λ s. flat_map q.handed (p.handed s);
    alike = λ s ok. alike_bind q.handed g (p.alike s ok) (λ x m. q.alike x (keeps s x ok m).0);
    part = λ a b n e fresh h.
        let first' = (c a n).instrs in
        let v = a + length first' in
        let i = (c a n).fresh in
        let second = (d v i).instrs in
        let u = p.grows a n in
        let end : v + length second ≡ b = omega (arith, length-append first' second) in
        part_next w a v b n i (d v i).fresh p.handed q.handed (omega arith) u (q.grows v i)
        (p.part a v n refl fresh (has_front (body w) a first' second h))
        (λ s t ok m. (handed_keeps w p keeps s t ok m).0)
        (q.part v b i end (omega arith) (has_back (body w) a first' second h));
  }

  pub simulates_branch : (c d : Code) (f g : Ways) → Simulates w c f → Simulates w d g → Simulates w (branch c d) (λ s. f s ++ g s)
  simulates_branch c d f g p q = record {
    grows = λ a n.
        (let u = p.grows (a + 1) n in
        let v = q.grows (a + 1 + length (c (a + 1) n).instrs + 1) (c (a + 1) n).fresh in omega arith);
    handed = λ s. p.handed s ++ q.handed s;
    alike = λ s ok. alike_append (p.alike s ok) (q.alike s ok);
    part = λ a b n e fresh h.
        let first' = (c (a + 1) n).instrs in
        let i = (c (a + 1) n).fresh in
        let v = a + 1 + length first' in
        let second = (d (v + 1) i).instrs in
        let rest = Jmp (v + 1 + length second) ∷ second in
        let u = p.grows (a + 1) n in
        let u' = q.grows (v + 1) i in
        let end : v + 1 + length second ≡ b = omega (arith, length-append first' rest) in
        let back = has_back (body w) (a + 1) first' rest h.1 in
        part_fork w true a (a + 1) (v + 1) b n (d (v + 1) i).fresh n i i (d (v + 1) i).fresh p.handed q.handed h.0 (omega arith)
        (omega arith) (omega arith) u' u (omega arith)
        (part_jump (a + 1) v b n i p.handed (back.0 ∙ ap (λ x. Some (Jmp x)) end) (omega arith)
        (p.part (a + 1) v n refl fresh (has_front (body w) (a + 1) first' rest h.1)))
        (q.part (v + 1) b i end (omega arith) back.1);
  }

  pub simulates_atomic : (c : Code) (f : Ways) → Simulates w c f → Simulates w (atomic_code c) (atomic f)
  simulates_atomic c f p = record {
    grows = λ a n. p.grows (a + 1) n;
    handed = λ s. take 1 (p.handed s);
    alike = λ s ok. alike_eq (take_head (p.handed s) ∙ ap option_to_list (alike_head (p.alike s ok)) ∙ sym (take_head (f s)));
    part = λ a b n e fresh h.
        let inner = (c (a + 1) n).instrs in
        let v = a + 1 + length inner in
        part_atomic w a v b n (c (a + 1) n).fresh p.handed h.0 (has_back (body w) (a + 1) inner (EndAtomic ∷ []) h.1).0
        (omega (arith, length-append inner (EndAtomic ∷ [])))
        (p.part (a + 1) v n refl fresh (has_front (body w) (a + 1) inner (EndAtomic ∷ []) h.1));
  }

  pub simulates_unless : (c : Code) (f : Ways) → Simulates w c f → Simulates w (negative_look_code c) (unless f)
  simulates_unless c f p = record {
    grows = λ a n. p.grows (a + 1) n;
    handed = λ s. where_none (p.handed s) s;
    alike = λ s ok.
        alike_eq
        (none_head (p.handed s) s
        ∙ ap (λ o. if is_some o then [] else s ∷ []) (alike_head (p.alike s ok))
        ∙ sym (none_head (f s) s)
        ∙ unless_is (f s) s);
    part = λ a b n e fresh h.
        let inner = (c (a + 1) n).instrs in
        let v = a + 1 + length inner in
        let end : v + 1 ≡ b = omega (arith, length-append inner (FailNegativeLookAround ∷ [])) in
        let end' : a + 1 + length (inner ++ FailNegativeLookAround ∷ []) ≡ b = omega arith in
        part_unless w a v b n (c (a + 1) n).fresh p.handed (h.0 ∙ ap (λ x. Some (Split (a + 1) x)) end')
        (has_back (body w) (a + 1) inner (FailNegativeLookAround ∷ []) h.1).0 end
        (p.part (a + 1) v n refl fresh (has_front (body w) (a + 1) inner (FailNegativeLookAround ∷ []) h.1));
  }

  pub simulates_look : (c : Code) (f : Ways) → Simulates w c f → Simulates w (look_code c) (ahead f)
  simulates_look c f p = record {
    grows = λ a n. (let u = p.grows (a + 1) (n + 1) in omega arith);
    handed = λ s. map (moved_to s.place) (p.handed s);
    alike = λ s ok. alike_map (moved_to s.place) (p.alike s ok);
    part = λ a b n e fresh h.
        let inner = (c (a + 1) (n + 1)).instrs in
        let v = a + 1 + length inner in
        let u = p.grows (a + 1) (n + 1) in
        let end : v + 1 ≡ b = omega (arith, length-append inner (Restore n ∷ [])) in
        part_look w a v b n (c (a + 1) (n + 1)).fresh p.handed fresh (omega arith) h.0
        (has_back (body w) (a + 1) inner (Restore n ∷ []) h.1).0 end (omega arith)
        (p.part (a + 1) v (n + 1) refl (omega arith) (has_front (body w) (a + 1) inner (Restore n ∷ []) h.1));
  }

  pub simulates_group : (g : ℕ) (c : Code) (f : Ways) → 0 < g → g ≤ group_count (whole w) → Simulates w c f →
      Simulates w (group_code g c) (captured g f)
  simulates_group g c f pos le p = record {
    grows = λ a n. (let u = p.grows (a + 1) (n + 1) in omega arith);
    handed = captured g p.handed;
    alike = λ s ok. alike_map _ (p.alike s ok);
    part = λ a b n e fresh h.
        let inner = (c (a + 1) (n + 1)).instrs in
        let v = a + 1 + length inner in
        let u = p.grows (a + 1) (n + 1) in
        part_group w g a v b n (c (a + 1) (n + 1)).fresh p.handed pos le fresh (omega arith) h.0
        (has_back (body w) (a + 1) inner (SaveCaptureGroup g n ∷ []) h.1).0
        (omega (arith, length-append inner (SaveCaptureGroup g n ∷ [])))
        (p.part (a + 1) v (n + 1) refl (omega arith) (has_front (body w) (a + 1) inner (SaveCaptureGroup g n ∷ []) h.1));
  }

  -- back so many characters, and then the code
  pub simulates_back : (i : ℕ) (c : Code) (f : Ways) →
      ((s : MatchState) (j : ℕ) → Sound w s → back_by (w.task).text i s.place ≡ Some j → Sound w (moved_to j s)) → Simulates w c f →
      Simulates w (one (GoBack i) >> c) (λ s. flat_map f (at_place s (back_by (w.task).text i s.place)))
  simulates_back i c f ok p = record {
    grows = λ a n. p.grows (a + 1) n;
    handed = λ s. flat_map p.handed (at_place s (back_by (w.task).text i s.place));
    alike = λ s so. led s so (back_by (w.task).text i s.place) refl;
    part = λ a b n e fresh h.
        part_back w i a b n (c (a + 1) n).fresh p.handed h.0 ok (p.part (a + 1) b n (omega arith) fresh h.1);
  }
    where
      led : (s : MatchState) → Sound w s → (o : Option ℕ) → back_by (w.task).text i s.place ≡ o →
          Alike (flat_map p.handed (at_place s o)) (flat_map f (at_place s o))
      led s so None e = alike_same []
      led s so (Some j) e = alike_append (p.alike (moved_to j s) (ok s j so e)) (alike_same [])

  pub simulates_conditional : (c d x : Code) (f g e : Ways) → Simulates w c f → Keeps w f → Simulates w d g → Simulates w x e →
      Simulates w (conditional_code c d x) (conditional f g e)
  simulates_conditional c d x f g e p keeps q r = record {
    grows = λ a n.
        let m = a + 1 + 1 + length (c (a + 1 + 1) n).instrs in
        let i = (c (a + 1 + 1) n).fresh in
        let y = a + 1 + 1 + length ((c (a + 1 + 1) n).instrs ++ EndAtomic ∷ (d (m + 1) i).instrs) + 1 in
        let u = p.grows (a + 1 + 1) n in
        let v = q.grows (m + 1) i in
        let t = r.grows (y + 1) (d (m + 1) i).fresh in
        omega arith;
    handed = λ s. from_first (p.handed s) q.handed (r.handed s);
    alike = λ s ok.
        alike_trans
        (alike_from_first (p.handed s) (f s) q.handed g (r.handed s) (e s) (alike_head (p.alike s ok))
        (λ y m. q.alike y (keeps s y ok m).0) (r.alike s ok))
        (alike_eq (sym (conditional_is f g e s (f s) refl)));
    part = λ a b n eq fresh h.
        let cond = (c (a + 1 + 1) n).instrs in
        let i = (c (a + 1 + 1) n).fresh in
        let m = a + 1 + 1 + length cond in
        let then' = (d (m + 1) i).instrs in
        let j = (d (m + 1) i).fresh in
        let front = cond ++ EndAtomic ∷ then' in
        let v = a + 1 + 1 + length front in
        let other = (x (v + 1 + 1) j).instrs in
        let tail = Jmp (v + 1 + length (EndAtomic ∷ other)) ∷ EndAtomic ∷ other in
        let u = p.grows (a + 1 + 1) n in
        let u' = q.grows (m + 1) i in
        let u'' = r.grows (v + 1 + 1) j in
        let end : v + 1 + length (EndAtomic ∷ other) ≡ b = omega (arith, length-append front tail) in
        let end' : v + 1 + 1 + length other ≡ b = omega arith in
        let mid : m + 1 + length then' ≡ v = omega (arith, length-append cond (EndAtomic ∷ then')) in
        let in_front = has_front (body w) (a + 1 + 1) front tail h.1.1 in
        let in_tail = has_back (body w) (a + 1 + 1) front tail h.1.1 in
        let at_end = has_back (body w) (a + 1 + 1) cond (EndAtomic ∷ then') in_front in
        part_if w a m (m + 1) v (v + 1) (v + 1 + 1) b n
        (x (v + 1 + 1) j).fresh i j j p.handed q.handed r.handed h.0 h.1.0 at_end.0 refl
        (in_tail.0 ∙ ap (λ y. Some (Jmp y)) end) in_tail.1.0 refl (omega arith) u u' u'' (omega arith) u''
        (λ s t ok k. (handed_keeps w p keeps s t ok k).0)
        (p.part (a + 1 + 1) m n refl fresh (has_front (body w) (a + 1 + 1) cond (EndAtomic ∷ then') in_front))
        (q.part (m + 1) v i mid (omega arith) at_end.1)
        (r.part (v + 1 + 1) b j end' (omega arith) in_tail.1.1);
  }
