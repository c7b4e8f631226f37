-- Parts of a program, and how they join.
use Rattle.std.proofs.Common.{◌≡◌, ◌≢◌, ◌⊎◌, ℕ, ◌+◌, ◌*◌, ◌<◌, ◌≤◌, Bool, true, false, if◌then◌else◌, ◌&&◌, nat_le, List, [], ◌∷◌, length, flat_map, Option, Some, None, refl, sym, ap, ◌∙◌, subst, arith, inl, inr, ⊎_elim}
use Rattle.std.specs.Prelude.{slice_get}
use Rattle.std.proofs.lemmas.Bool.{ne_eqb, eq-eqb, leb-true}
use Rattle.regex_hir.specs.Text.{is_boundary}
use Rattle.fancy_meaning.specs.Tree.{Tree}
use Rattle.fancy_meaning.specs.Places.{is_place}
use Rattle.fancy_meaning.specs.Nodes.{group_count}
use Rattle.fancy_meaning.specs.MatchState.{MatchState, Ways, put, moved_to}
use Rattle.fancy_meaning.specs.Ways.{Setting, moves}
use Rattle.fancy_meaning.specs.Moves.{Move}
use Rattle.fancy_meaning.specs.Answer.{search_of}
use Rattle.fancy_meaning.specs.Numbers.{usize_max}
use Rattle.fancy_meaning.specs.Instr.{Instr}
use Rattle.fancy_meaning.specs.Code.{Code}
use Rattle.fancy_meaning.specs.Config.{Slots, Branch}
use Rattle.fancy_meaning.specs.Machine.{flag_slot, goes_from, step}
use Rattle.fancy_meaning.specs.Keys.{bit}
use Rattle.fancy_meaning.specs.Enumerates.{HasAt, start_number, end_number, IsOutsideState}
use Rattle.fancy_meaning.specs.Premises.{IsSoundState}
use Rattle.fancy_composed.proofs.Continuations.{Tally, to_same, to_eq, to_trans, after, Ground, here, go, failed, step_at_pc}
use Rattle.fancy_composed.proofs.Alike.{Among, Alike}
use Rattle.fancy_composed.proofs.Enumerates.{Enumerates, none, from, one, weaken, known, bind}

pub put_same : {A : Type 0} (f : ℕ → A) (i j : ℕ) (v : A) → j ≡ i → put i v f j ≡ v
put_same f i j v e = ap (λ b. if b then v else f j) (eq-eqb j i e)

pub put_other : {A : Type 0} (f : ℕ → A) (i j : ℕ) (v : A) → (j ≡ i → ⊥) → put i v f j ≡ f j
put_other f i j v ne = ap (λ b. if b then v else f j) (ne_eqb j i ne)

-- a slot that is not among those from n to m
abbrev pub Outside : ℕ → ℕ → ℕ → Type 0
Outside n m k = (k < n) ⊎ (m ≤ k)

pub outside_more : (n m i j k : ℕ) → n ≤ i → j ≤ m → Outside n m k → Outside i j k
outside_more n m i j k l r = ⊎_elim {C = Outside i j k} (λ a. inl (omega arith)) (λ b. inr (omega arith))

pub outside_not : (n m i k : ℕ) → n ≤ i → i < m → Outside n m k → k ≢ i
outside_not n m i k l r = ⊎_elim {C = k ≢ i} (λ a e. omega arith) (λ b e. omega arith)

pub both_left : (a b : Bool) → (a && b) ≡ true → a ≡ true
both_left true b e = refl
both_left false b e = e

pub both_right : (a b : Bool) → (a && b) ≡ true → b ≡ true
both_right true b e = e
both_right false b e = cc

pub place_within : (text : List ℕ) (i : ℕ) → is_place text i ≡ true → i ≤ length text
place_within text i e = leb-true i (length text) (both_left (nat_le i (length text)) (is_boundary text i) e)

-- the state at the place, if there is one
abbrev pub at_place : MatchState → Option ℕ → List MatchState
at_place s None = []
at_place s (Some i) = moved_to i s ∷ []

pub moves_at : (q : Setting) (move : Move) (s : MatchState) (o : Option ℕ) → move s.place ≡ o → moves q move s ≡ at_place s o
moves_at q move s None e = rw e refl
moves_at q move s (Some i) e = rw e refl

module _ (w : Ground) where
  abbrev pub whole : Tree
  whole = (w.plan).analysis.tree

  abbrev pub setting : Setting
  setting = (search_of w.plan (w.task).text (w.task).options).setting

  abbrev pub Sound : MatchState → Type 0
  Sound s = IsSoundState setting whole s

  abbrev pub flag : ℕ
  flag = flag_slot (w.task).program

  -- the first slot that is no group's, nor the text-end flag
  abbrev pub first : ℕ
  first = flag + bit ((w.task).program).end_text

  abbrev pub body : List Instr
  body = ((w.task).program).body

  pub flag_is : flag ≡ 2 * group_count whole + 2
  flag_is =
      ap (λ v. 2 * (if v then ((w.task).program).total_groups else ((w.task).program).total_groups + 1))
      (w.fits).implicit_group_0
      ∙ (let e = (w.fits).total_groups in omega arith)

  -- a slot outside the state is none of these
  pub outside_state : (k i : ℕ) → IsOutsideState w.task k → i ≢ 1 → i < first → k ≢ i
  outside_state k i out ne lt = ⊎_elim {C = k ≢ i} (λ e x. ne (sym x ∙ e)) (λ le x. omega (arith, le, x, lt)) out

  pub sound_within : (s : MatchState) → Sound s → s.place ≤ length (w.task).text
  sound_within s ok = place_within (w.task).text s.place ok.place

  -- the slots stand for the state, whose place the machine has beside them
  pub record Stands (s : MatchState) (slots : Slots) : Type 0 where
    pub kept : slots 0 ≡ s.kept
    pub starts : (g : ℕ) → 0 < g → 2 * g < flag → slots (2 * g) ≡ start_number (s.captures g)
    pub ends : (g : ℕ) → 0 < g → 2 * g < flag → slots (2 * g + 1) ≡ end_number (s.captures g)
    pub flagged : ((w.task).program).end_text ≡ true → slots flag ≡ (if s.text_end then 1 else usize_max)

  -- what a part leaves that takes the slots from n to m
  pub record After (n m : ℕ) (slots : Slots) (h : MatchState) (r : Slots) : Type 0 where
    pub stands : Stands h r
    pub keeps : (k : ℕ) → IsOutsideState w.task k → Outside n m k → r k ≡ slots k

  -- from a to b a part enumerates what f gives, with fresh slots from n to m
  pub record Part (a b n m : ℕ) (f : Ways) : Type 0 where
    pub enumerates : (s : MatchState) (slots : Slots) (marks : List ℕ) (bs : List Branch) (count : Tally) → Sound s → Stands s slots →
        Enumerates w b (After n m slots) marks bs count.longest (f s) (go w a s.place slots marks bs count)

  -- code that enumerates ways wherever it stands, up to repeats
  pub record Simulates (code : Code) (f : Ways) : Type 0 where
    pub grows : (a n : ℕ) → n ≤ (code a n).fresh
    pub handed : Ways
    pub alike : (s : MatchState) → Sound s → Alike (handed s) (f s)
    pub part : (a b n : ℕ) → a + length (code a n).instrs ≡ b → first ≤ n → HasAt body a (code a n).instrs →
        Part a b n (code a n).fresh handed

  -- ways lead on, from what is sound to what is sound
  abbrev pub Keeps : Ways → Type 0
  Keeps f = (s t : MatchState) → Sound s → Among t (f s) → Sound t × (s.place ≤ t.place)

  pub handed_keeps : {code : Code} {f : Ways} (c : Simulates code f) → Keeps f → Keeps c.handed
  handed_keeps c k s t ok m = k s t ok ((c.alike s ok).members t m)

  pub after_trans : (n m i j k l : ℕ) (h u : MatchState) (r s t : Slots) → n ≤ i → j ≤ m → n ≤ k → l ≤ m → After i j r h s →
      After k l s u t → After n m r u t
  after_trans n m i j k l h u r s t li lj lk ll a b = record {
    stands = b.stands;
    keeps = λ x lo out. b.keeps x lo (outside_more n m k l x lk ll out) ∙ a.keeps x lo (outside_more n m i j x li lj out);
  }

  pub after_wider : (n m i j : ℕ) (h : MatchState) (slots r : Slots) → n ≤ i → j ≤ m → After i j slots h r → After n m slots h r
  after_wider n m i j h slots r li lj af = record {
    stands = af.stands;
    keeps = λ k lo out. af.keeps k lo (outside_more n m i j k li lj out);
  }

  pub part_wider : (a b n m i j : ℕ) (f : Ways) → n ≤ i → j ≤ m → Part a b i j f → Part a b n m f
  part_wider a b n m i j f li lj p = record {
    enumerates = λ s slots marks bs count ok st.
        weaken w (λ h r af. after_wider n m i j h slots r li lj af) (p.enumerates s slots marks bs count ok st);
  }

  -- the slots as they were
  pub after_move : (n m : ℕ) (h : MatchState) (slots : Slots) → Stands h slots → After n m slots h slots
  after_move n m h slots st = record { stands = st; keeps = λ k lo out. refl }

  -- a slot that is no group's
  pub stands_put : (s : MatchState) (slots : Slots) (i v : ℕ) → first ≤ i → Stands s slots → Stands s (put i v slots)
  stands_put s slots i v le st = record {
    kept = put_other slots i 0 v (λ x. omega (arith, flag_is)) ∙ st.kept;
    starts = λ g lo hi. put_other slots i (2 * g) v (λ x. omega arith) ∙ st.starts g lo hi;
    ends = λ g lo hi. put_other slots i (2 * g + 1) v (λ x. omega (arith, flag_is)) ∙ st.ends g lo hi;
    flagged = λ e. put_other slots i flag v (λ x. let b = ap bit e in omega (arith, b, le)) ∙ st.flagged e;
  }

  -- a slot of one's own
  pub after_put : (n m i v : ℕ) (h : MatchState) (slots r : Slots) → first ≤ n → n ≤ i → i < m → After n m slots h r →
      After n m slots h (put i v r)
  after_put n m i v h slots r lo le lt af = record {
    stands = stands_put h r i v (omega arith) af.stands;
    keeps = λ k lk out. put_other r i k v (outside_not n m i k le lt out) ∙ af.keeps k lk out;
  }

  -- the state elsewhere
  pub stands_moved : (s : MatchState) (i : ℕ) (slots : Slots) → Stands s slots → Stands (moved_to i s) slots
  stands_moved s i slots st = record { kept = st.kept; starts = st.starts; ends = st.ends; flagged = st.flagged }

  pub part_stays : (a n m : ℕ) → Part a a n m (λ s. s ∷ [])
  part_stays a n m = record { enumerates = λ s slots marks bs count ok st. one w slots count (after_move n m s slots st) to_same }

  pub part_next : (a b c n i m : ℕ) (f g : Ways) → b ≤ c → n ≤ i → i ≤ m → Part a b n i f →
      ((s t : MatchState) → Sound s → Among t (f s) → Sound t) → Part b c i m g → Part a c n m (λ s. flat_map g (f s))
  part_next a b c n i m f g le fn fm p ok q = record {
    enumerates = λ s slots marks bs count so st.
        bind w g (f s) le
        (λ h r cs j af.
        weaken w (λ u t ag. after_trans n m n i i m h u slots r t (omega arith) fm fn (omega arith) af.0 ag)
        (q.enumerates h r marks cs j af.1 af.0.stands))
        (known w Sound (λ h m'. ok s h so m') (p.enumerates s slots marks bs count so st));
  }

  at_option : (a n m : ℕ) (s : MatchState) (slots : Slots) (marks : List ℕ) (bs : List Branch) (count : Tally) (o : Option ℕ) →
      Stands s slots → Enumerates w (a + 1) (After n m slots) marks bs count.longest (at_place s o)
      (after w.task (goes_from w.task (here w a s.place slots marks bs count) o))
  at_option a n m s slots marks bs count None st = none count (failed w bs (here w a s.place slots marks bs count) refl)
  at_option a n m s slots marks bs count (Some p) st =
      one w slots count (after_move n m (moved_to p s) slots (stands_moved s p slots st)) to_same

  -- an instruction that moves on or fails
  pub part_moves : (a b n m : ℕ) (i : Instr) (f : MatchState → Option ℕ) → slice_get body a ≡ Some i → a + 1 ≡ b →
      ((s : MatchState) (slots : Slots) (marks : List ℕ) (bs : List Branch) (count : Tally) → Sound s → Stands s slots →
      step w.task i (here w a s.place slots marks bs count) ≡ goes_from w.task (here w a s.place slots marks bs count) (f s)) →
      Part a b n m (λ s. at_place s (f s))
  part_moves a b n m i f at e does = record {
    enumerates = λ s slots marks bs count ok st.
        subst (λ c. Enumerates w c (After n m slots) marks bs count.longest (at_place s (f s)) (go w a s.place slots marks bs count)) e
        (from w
        (to_trans (step_at_pc w i a s.place slots marks bs count at)
        (to_eq (λ k. ap (λ x. after w.task x k) (does s slots marks bs count ok st))))
        (at_option a n m s slots marks bs count (f s) st));
  }
