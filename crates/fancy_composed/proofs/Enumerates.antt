-- A part of a program that enumerates a list of states.
use Rattle.std.proofs.Common.{◌≡◌, ℕ, ◌+◌, ◌-◌, ◌≤◌, Bool, true, false, if◌then◌else◌, List, [], ◌∷◌, ◌++◌, length, map, flat_map, take, Option, Some, refl, sym, ap, ap₂, drop, ◌∙◌, subst, arith, append_assoc, length-append}
use Rattle.std.specs.Prelude.{slice_get}
use Rattle.std.proofs.Math.Seq.{drop-append_seam}
use Rattle.std.proofs.lemmas.Bool.{ne_eqb, eq-eqb}
use Rattle.fancy_meaning.specs.MatchState.{MatchState}
use Rattle.fancy_meaning.specs.Loops.{prefer}
use Rattle.fancy_meaning.specs.Instr.{EndAtomic, FailNegativeLookAround}
use Rattle.fancy_meaning.specs.Constructs.{split}
use Rattle.fancy_meaning.specs.Config.{Slots, Branch, Config, Next, goes_to, below_pc, push}
use Rattle.fancy_meaning.specs.Machine.{exec, step, fail_below, choose, then_on}
use Rattle.fancy_composed.proofs.Alike.{Among, at_head, further}
use Rattle.fancy_composed.proofs.Continuations.{Continuation, Tally, once_more, To, to_same, to_eq, to_trans, after, Ground, here, go, resume, failed, resumed, step_at_pc, pushed}

-- branches that go no further than a place of the program
abbrev pub Within : ℕ → List Branch → Type 0
Within b [] = Unit {0}
Within b (x ∷ xs) = (x.pc ≤ b) × Within b xs

pub Within-more : (a b : ℕ) (xs : List Branch) → a ≤ b → Within a xs → Within b xs
Within-more a b [] le h = tt
Within-more a b (x ∷ xs) le h = (omega (arith, h.0), Within-more a b xs le h.1)

pub Within-append : (b : ℕ) (xs ys : List Branch) → Within b xs → Within b ys → Within b (xs ++ ys)
Within-append b [] ys h k = k
Within-append b (x ∷ xs) ys h k = (h.0, Within-append b xs ys h.1 k)

-- the first of these states, led on, or else another
abbrev pub from_first : List MatchState → (MatchState → List MatchState) → List MatchState → List MatchState
from_first [] f other = other
from_first (h ∷ hs) f other = f h

-- the state where there is no other
abbrev pub where_none : List MatchState → MatchState → List MatchState
where_none [] s = s ∷ []
where_none (h ∷ hs) s = []

module _ (w : Ground) where
  -- From a continuation the machine comes to b with the first of these states, and with the next whenever it is failed back
  -- above these branches; after the last it fails into them. P says what holds of a state and the slots there.
  pub data Enumerates (b : ℕ) (P : MatchState → Slots → Type 0) (marks : List ℕ) (bs : List Branch)
      : Option (List ℕ) → List MatchState → Continuation → Type 0 where
    none : {o : Continuation} (count : Tally) → To o (resume w bs count) → Enumerates b P marks bs count.longest [] o
    way : {o : Continuation} {h : MatchState} {hs : List MatchState} (slots : Slots) (over : List Branch) (count : Tally) → P h slots →
        Within b over → To o (go w b h.place slots marks (over ++ bs) count) →
        ((c : Tally) → Enumerates b P marks bs c.longest hs (resume w (over ++ bs) c)) → Enumerates b P marks bs count.longest (h ∷ hs) o

  pub from : {b : ℕ} {P : MatchState → Slots → Type 0} {marks : List ℕ} {bs : List Branch} {hs : List MatchState} {best : Option (List ℕ)} {o p : Continuation} →
      To o p → Enumerates b P marks bs best hs p → Enumerates b P marks bs best hs o
  from t (none count u) = none count (to_trans t u)
  from t (way slots over count p fits u next) = way slots over count p fits (to_trans t u) next

  pub one : {b : ℕ} {P : MatchState → Slots → Type 0} {marks : List ℕ} {bs : List Branch} {h : MatchState} {o : Continuation}
      (slots : Slots) (count : Tally) → P h slots → To o (go w b h.place slots marks bs count) → Enumerates b P marks bs count.longest (h ∷ []) o
  one slots count p t = way slots [] count p tt t (λ c. none c to_same)

  pub weaken : {b : ℕ} {P Q : MatchState → Slots → Type 0} {marks : List ℕ} {bs : List Branch} {hs : List MatchState} {best : Option (List ℕ)} {o : Continuation} →
      ((h : MatchState) (slots : Slots) → P h slots → Q h slots) → Enumerates b P marks bs best hs o → Enumerates b Q marks bs best hs o
  weaken f (none count t) = none count t
  weaken f (way {h = h} slots over count p fits t next) = way slots over count (f h slots p) fits t (λ c. weaken f (next c))

  -- with what is known of each state of the list
  pub known : {b : ℕ} {P : MatchState → Slots → Type 0} {marks : List ℕ} {bs : List Branch} {hs : List MatchState} {best : Option (List ℕ)} {o : Continuation}
      (R : MatchState → Type 0) → ((h : MatchState) → Among h hs → R h) → Enumerates b P marks bs best hs o →
      Enumerates b (λ h r. P h r × R h) marks bs best hs o
  known R f (none count t) = none count t
  known R f (way {h = h} slots over count p fits t next) =
      way slots over count (p, f h at_head) fits t (λ c. known R (λ k m. f k (further m)) (next c))

  -- one list, and then another where the first is at its end
  pub append : {b : ℕ} {P : MatchState → Slots → Type 0} {marks : List ℕ} {bs : List Branch} (over : List Branch) {best : Option (List ℕ)} {o : Continuation}
      (hs ks : List MatchState) → Within b over → Enumerates b P marks (over ++ bs) best hs o →
      ((c : Tally) → Enumerates b P marks bs c.longest ks (resume w (over ++ bs) c)) → Enumerates b P marks bs best (hs ++ ks) o
  append over hs ks fits (none count t) k = from t (k count)
  append {b} {P} {marks} {bs} over {o} hs ks fits (way {h = h} {hs = rest} slots more count p into t next) k =
      let e = append_assoc more over bs in
      way slots (more ++ over) count p (Within-append b more over into fits)
      (subst (λ l. To o (go w b h.place slots marks l count)) (sym e) t)
      (λ c. subst (λ l. Enumerates b P marks bs c.longest (rest ++ ks) (resume w l c)) (sym e) (append over rest ks fits (next c) k))

  -- each state led on
  pub bind : {a b : ℕ} {P Q : MatchState → Slots → Type 0} {marks : List ℕ} {bs : List Branch} {best : Option (List ℕ)} {o : Continuation}
      (f : MatchState → List MatchState) (hs : List MatchState) → a ≤ b →
      ((h : MatchState) (slots : Slots) (cs : List Branch) (count : Tally) → P h slots →
      Enumerates b Q marks cs count.longest (f h) (go w a h.place slots marks cs count)) →
      Enumerates a P marks bs best hs o → Enumerates b Q marks bs best (flat_map f hs) o
  bind f hs le k (none count t) = none count t
  bind {a} {b} {bs = bs} f hs le k (way {h = h} {hs = rest} slots over count p fits t next) =
      from t
      (append over (f h) (flat_map f rest) (Within-more a b over le fits) (k h slots (over ++ bs) count p)
      (λ c. bind f rest le k (next c)))

  -- each state led on to one
  pub mapped : {a b : ℕ} {P Q : MatchState → Slots → Type 0} {marks : List ℕ} {bs : List Branch} {best : Option (List ℕ)} {o : Continuation}
      (f : MatchState → MatchState) (turn : MatchState → Slots → Slots) (hs : List MatchState) → a ≤ b →
      ((h : MatchState) (slots : Slots) (cs : List Branch) (count : Tally) → P h slots →
      Q (f h) (turn h slots) × To (go w a h.place slots marks cs count) (go w b (f h).place (turn h slots) marks cs count)) →
      Enumerates a P marks bs best hs o → Enumerates b Q marks bs best (map f hs) o
  mapped f turn hs le k (none count t) = none count t
  mapped {a} {b} {bs = bs} f turn hs le k (way {h = h} {hs = rest} slots over count p fits t next) =
      let q = k h slots (over ++ bs) count p in
      way (turn h slots) over count q.0 (Within-more a b over le fits) (to_trans t q.1) (λ c. mapped f turn rest le k (next c))

  -- the same states, further on
  pub lead : {a b : ℕ} {P : MatchState → Slots → Type 0} {marks : List ℕ} {bs : List Branch} {hs : List MatchState} {best : Option (List ℕ)} {o : Continuation} →
      a ≤ b →
      ((h : MatchState) (slots : Slots) (cs : List Branch) (count : Tally) → P h slots →
      To (go w a h.place slots marks cs count) (go w b h.place slots marks cs count)) →
      Enumerates a P marks bs best hs o → Enumerates b P marks bs best hs o
  lead le k (none count t) = none count t
  lead {a} {b} {bs = bs} le k (way {h = h} slots over count p fits t next) =
      way slots over count p (Within-more a b over le fits) (to_trans t (k h slots (over ++ bs) count p))
      (λ c. lead le k (next c))

  keep_own : (over bs : List Branch) → drop (length (over ++ bs) - length bs) (over ++ bs) ≡ bs
  keep_own over bs =
      let e : length (over ++ bs) - length bs ≡ length over = omega (arith, length-append over bs) in
      ap (λ n. drop n (over ++ bs)) e ∙ drop-append_seam over bs

  keep_held : (over bs : List Branch) →
      drop (length ((over ++ bs) ++ w.base) - length (bs ++ w.base)) ((over ++ bs) ++ w.base) ≡ bs ++ w.base
  keep_held over bs =
      ap (λ l. drop (length l - length (bs ++ w.base)) l) (append_assoc over bs w.base) ∙ keep_own over (bs ++ w.base)

  -- the end of an atomic part drops the branches that it held
  pub cut_back : (a b : ℕ) (ix : ℕ) (slots : Slots) (marks : List ℕ) (over bs : List Branch) (count : Tally) →
      slice_get ((w.task).program).body a ≡ Some EndAtomic → a + 1 ≡ b →
      To (go w a ix slots (length (bs ++ w.base) ∷ marks) (over ++ bs) count) (go w b ix slots marks bs count)
  cut_back a b ix slots marks over bs count at e =
      to_trans (step_at_pc w EndAtomic a ix slots (length (bs ++ w.base) ∷ marks) (over ++ bs) count at)
      (to_eq
      (λ n.
      ap₂
      (λ x l.
      exec w.task n
      (record {
        now = record { pc = x; ix = ix; slots = slots; marks = marks };
        branches = l;
        start = w.start;
        backtracks = count.backtracks;
        longest = count.longest;
      })) e
      (keep_held over bs)))

  -- the first state alone
  pub cut : {a b : ℕ} {P : MatchState → Slots → Type 0} {marks : List ℕ} {bs : List Branch} {hs : List MatchState} {best : Option (List ℕ)} {o : Continuation} →
      slice_get ((w.task).program).body a ≡ Some EndAtomic → a + 1 ≡ b → Enumerates a P (length (bs ++ w.base) ∷ marks) bs best hs o →
      Enumerates b P marks bs best (take 1 hs) o
  cut at e (none count t) = none count t
  cut {a} {b} {marks = marks} {bs = bs} at e (way {h = h} slots over count p fits t next) =
      one slots count p (to_trans t (cut_back a b h.place slots marks over bs count at e))

  below_own : (b : ℕ) (over : List Branch) (x : Branch) (bs : List Branch) → x.pc ≡ b + 1 → Within b over →
      below_pc (b + 1) (over ++ x ∷ bs) ≡ Some bs
  below_own b [] x bs e fits = ap (λ v. if v then Some bs else below_pc (b + 1) bs) (eq-eqb x.pc (b + 1) e)
  below_own b (y ∷ over) x bs e fits =
      ap (λ v. if v then Some (over ++ x ∷ bs) else below_pc (b + 1) (over ++ x ∷ bs))
      (ne_eqb y.pc (b + 1) (λ q. omega (arith, fits.0)))
      ∙ below_own b over x bs e fits.1

  -- one state where there is none
  pub turned : {a b : ℕ} {P Q : MatchState → Slots → Type 0} {marks : List ℕ} {bs : List Branch} {hs : List MatchState} {best : Option (List ℕ)} {o : Continuation}
      (s : MatchState) (slots : Slots) → slice_get ((w.task).program).body a ≡ Some FailNegativeLookAround → a + 1 ≡ b →
      Q s slots → Enumerates a P marks (record { pc = b; ix = s.place; slots = slots; marks = marks } ∷ bs) best hs o →
      Enumerates b Q marks bs best (where_none hs s) o
  turned {b = b} {marks = marks} {bs = bs} s slots at e q (none count t) =
      one slots (once_more count) q (to_trans t (resumed w (record { pc = b; ix = s.place; slots = slots; marks = marks }) bs count))
  turned {a} {b} {marks = marks} {bs = bs} s slots at e q (way {h = h} r over count p fits t next) =
      let x : Branch = record { pc = b; ix = s.place; slots = slots; marks = marks } in
      let c : Config = here w a h.place r marks (over ++ x ∷ bs) count in
      let u = step_at_pc w FailNegativeLookAround a h.place r marks (over ++ x ∷ bs) count at in
      let found = ap (below_pc (a + 1)) (append_assoc over (x ∷ bs) w.base) ∙ below_own a over x (bs ++ w.base) (sym e) fits in
      none count
      (to_trans t
      (to_trans u
      (to_trans (to_eq (λ n. ap (λ o. then_on w.task (exec w.task n) (fail_below w.task c o)) found)) (failed w bs c refl))))

  -- at y or at z first, with a branch for the other
  abbrev pub fork : Bool → ℕ → ℕ → Config → Next
  fork true y z c = push z c (goes_to y c)
  fork false y z c = push y c (goes_to z c)

  pub fork_split : (greedy : Bool) (y z : ℕ) (c : Config) → step w.task (split greedy y z) c ≡ fork greedy y z c
  fork_split true y z c = refl
  fork_split false y z c = refl

  pub fork_choose : (greedy : Bool) (z : ℕ) (c : Config) → choose w.task greedy z c ≡ fork greedy (c.pc + 1) z c
  fork_choose true z c = refl
  fork_choose false z c = refl

  -- two lists, in either order
  pub forked :
      (greedy : Bool) {c : ℕ} {P : MatchState → Slots → Type 0} {marks : List ℕ} {bs : List Branch} {hs ks : List MatchState}
      (x y z ix : ℕ) (slots : Slots) (count : Tally) → y ≤ c → z ≤ c →
      ((cs : List Branch) (n : Tally) → Enumerates c P marks cs n.longest hs (go w y ix slots marks cs n)) →
      ((cs : List Branch) (n : Tally) → Enumerates c P marks cs n.longest ks (go w z ix slots marks cs n)) →
      Enumerates c P marks bs count.longest (prefer greedy hs ks) (after w.task (fork greedy y z (here w x ix slots marks bs count)))
  forked true {marks = marks} {bs = bs} {hs = hs} {ks = ks} x y z ix slots count ly lz p q =
      let b : Branch = record { pc = z; ix = ix; slots = slots; marks = marks } in
      from (pushed w x z y ix ix slots slots marks bs count)
      (append (b ∷ []) hs ks (lz, tt) (p (b ∷ bs) count) (λ n. from (resumed w b bs n) (q bs (once_more n))))
  forked false {marks = marks} {bs = bs} {hs = hs} {ks = ks} x y z ix slots count ly lz p q =
      let b : Branch = record { pc = y; ix = ix; slots = slots; marks = marks } in
      from (pushed w x y z ix ix slots slots marks bs count)
      (append (b ∷ []) ks hs (ly, tt) (q (b ∷ bs) count) (λ n. from (resumed w b bs n) (p bs (once_more n))))

  -- from the first of these states, and else from another
  pub chosen : {b c : ℕ} {P Q : MatchState → Slots → Type 0} {marks : List ℕ} {bs : List Branch} {hs : List MatchState} {best : Option (List ℕ)} {o : Continuation}
      (x y z : ℕ) (s : MatchState) (slots : Slots) (f g : MatchState → List MatchState) →
      slice_get ((w.task).program).body b ≡ Some EndAtomic → b + 1 ≡ x → slice_get ((w.task).program).body y ≡ Some EndAtomic →
      y + 1 ≡ z →
      ((h : MatchState) (r : Slots) (count : Tally) → P h r → Enumerates c Q marks bs count.longest (f h) (go w x h.place r marks bs count)) →
      ((count : Tally) → Enumerates c Q marks bs count.longest (g s) (go w z s.place slots marks bs count)) → Enumerates b P (length (bs ++ w.base) ∷ marks)
      (record { pc = y; ix = s.place; slots = slots; marks = length (bs ++ w.base) ∷ marks } ∷ bs) best hs o →
      Enumerates c Q marks bs best (from_first hs f (g s)) o
  chosen {marks = marks} {bs = bs} x y z s slots f g end ex end' ez onward other (none count t) =
      let k : Branch = record { pc = y; ix = s.place; slots = slots; marks = length (bs ++ w.base) ∷ marks } in
      from (to_trans t (to_trans (resumed w k bs count) (cut_back y z s.place slots marks [] bs (once_more count) end' ez)))
      (other (once_more count))
  chosen {b} {marks = marks} {bs = bs} x y z s slots f g end ex end' ez onward other (way {h = h} r over count p fits t next) =
      let k : Branch = record { pc = y; ix = s.place; slots = slots; marks = length (bs ++ w.base) ∷ marks } in
      let e : over ++ k ∷ bs ≡ (over ++ k ∷ []) ++ bs = sym (append_assoc over (k ∷ []) bs) in
      from
      (to_trans t
      (to_trans (to_eq (λ n. ap (λ l. go w b h.place r (length (bs ++ w.base) ∷ marks) l count n) e))
      (cut_back b x h.place r marks (over ++ k ∷ []) bs count end ex)))
      (onward h r count p)
