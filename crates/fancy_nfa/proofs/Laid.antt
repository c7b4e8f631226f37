-- How states are laid one after the other, and written over.
use Rattle.std.proofs.Common.{inl, inr, ◌≡◌, ℕ, zero, suc, ◌+◌, Bool, List, [], ◌∷◌, ◌++◌, length, map, true≢false, refl, sym, ap, ◌∙◌, subst, arith, append_assoc, length-append}
use Rattle.std.specs.Prelude.{slice_set, Result, Ok, Err, IsErr, IsErrAnd, IsTrue, ◌⊎◌}
use Rattle.std.proofs.lemmas.List.{length-map, map-set}
use Rattle.std.proofs.Math.Seq.{set-append_seam}
use Rattle.fancy_meaning.specs.Chars.{is_class}
use Rattle.fancy_expr.specs.declared.error.Error.{Error}
use Rattle.fancy_expr.specs.Each.{Each}
use Rattle.fancy_nfa_laws.specs.NfaStates as plain
use Rattle.fancy_nfa_laws.specs.NfaCode.{NfaCode, ◌>>◌, one, headed, around}
use Rattle.fancy_nfa.specs.declared.layout.Layout.{Layout}
use Rattle.fancy_nfa.specs.declared.nfa_state.NfaState.{NfaState}
use Rattle.fancy_nfa.specs.Views.{state_of, IsStateReadBy}
use Rattle.fancy_nfa.specs.ClassTexts.{Texts, no_text, IsRefusal}
use Rattle.fancy_nfa.specs.Layouts.{states_in, Replaces, Adds, Lays}
use Rattle.fancy_nfa.specs.Shapes.{with_jumps}

pub each_set : {X : Type 0} (P : X → Type 0) (l : List X) (i : ℕ) (y : X) → P y → Each P l → Each P (slice_set l i y)
each_set P [] i y h hs = tt
each_set P (x ∷ l) zero y h hs = (h, hs.1)
each_set P (x ∷ l) (suc i) y h hs = (hs.0, each_set P l i y h hs.1)

pub place : (l : Layout) → l.states.len ≡ length (states_in l)
place l = l.states.ok.0 ∙ sym (length-map l.states.items state_of)

-- the same layout, with one state written over
pub replaced_one : (s t : Layout) (at : ℕ) (p : NfaState) → t.unicode ≡ s.unicode → t.states.items ≡ slice_set s.states.items at p →
    IsStateReadBy s.unicode p → Replaces (slice_set (states_in s) at (state_of p)) s t
replaced_one s t at p same is read = record {
  states = ap (map state_of) is ∙ map-set state_of s.states.items at p;
  unicode = same;
  reads = λ each. subst (Each (IsStateReadBy s.unicode)) (sym is)
      (each_set (IsStateReadBy s.unicode) s.states.items at p read each);
}

pub replaced_then : (l m : List plain.NfaState) (s t u : Layout) → Replaces l s t → Replaces m t u → Replaces m s u
replaced_then l m s t u h g = record {
  states = g.states;
  unicode = g.unicode ∙ h.unicode;
  reads = λ each. subst (λ b. Each (IsStateReadBy b) u.states.items) h.unicode
      (g.reads (subst (λ b. Each (IsStateReadBy b) t.states.items) (sym h.unicode) (h.reads each)));
}

pub replaced_same : (l : List plain.NfaState) (s t : Layout) → Replaces l s t → Replaces (states_in t) s t
replaced_same l s t h = record { states = refl; unicode = h.unicode; reads = h.reads }

-- ---- refusals

module _ (unicode : Bool) where
  pub refusal_by : (A B : Texts) (e : Error) → ((inner : List ℕ) (casei : Bool) → A inner casei → B inner casei) →
      IsRefusal unicode A e → IsRefusal unicode B e
  refusal_by A B e in_b (inl memory) = inl memory
  refusal_by A B e in_b (inr r) = inr (r.0, (r.1.0, (in_b r.0 r.1.0 r.1.1.0, r.1.1.1)))

module _ {X : Type 0} (code : NfaCode) (A B : Texts) (s t : Layout) where
  -- the same texts
  pub lays_by : ((inner : List ℕ) (casei : Bool) → A inner casei → B inner casei) → ((inner : List ℕ) (casei : Bool) → B inner casei → A inner casei) →
      (r : Result X Error) → Lays code A s t r → Lays code B s t r
  lays_by to from (Ok x) h = record { added = h.added; classes = λ inner casei b. h.classes inner casei (from inner casei b) }
  lays_by to from (Err e) h = refusal_by s.unicode A B e to h

-- ---- one after the other

module _ (a b : NfaCode) (s t u : Layout) where
  added_then : Replaces (states_in s ++ a (length (states_in s))) s t → Replaces (states_in t ++ b (length (states_in t))) t u →
      Replaces (states_in s ++ (a >> b) (length (states_in s))) s u
  added_then h g =
      let p = states_in s in
      let first = a (length p) in
      let e : states_in t ++ b (length (states_in t)) ≡ p ++ (a >> b) (length p) =
      ap (λ l. l ++ b (length l)) h.states ∙ append_assoc p first (b (length (p ++ first))) ∙ ap (λ n. p ++ (first ++ b n)) (length-append p first) in
      subst (λ l. Replaces l s u) e (replaced_then _ _ s t u h g)

  module _ (A B C : Texts) where
    pub adds_then : ((inner : List ℕ) (casei : Bool) → C inner casei → A inner casei ⊎ B inner casei) →
        Adds a A s t → Adds b B t u → Adds (a >> b) C s u
    adds_then split h g = record {
      added = added_then h.added g.added;
      classes = λ inner casei c. is_one inner casei (split inner casei c);
    }
      where
        is_one : (inner : List ℕ) (casei : Bool) → A inner casei ⊎ B inner casei → IsTrue (is_class s.unicode inner casei)
        is_one inner casei (inl x) = h.classes inner casei x
        is_one inner casei (inr x) = subst (λ u. IsTrue (is_class u inner casei)) h.added.unicode (g.classes inner casei x)

    pub lays_then : {X : Type 0} → ((inner : List ℕ) (casei : Bool) → C inner casei → A inner casei ⊎ B inner casei) →
        ((inner : List ℕ) (casei : Bool) → B inner casei → C inner casei) →
        (r : Result X Error) → Adds a A s t → Lays b B t u r → Lays (a >> b) C s u r
    lays_then split to (Ok x) h g = adds_then split h g
    lays_then split to (Err e) h g = refusal_by s.unicode B C e to (subst (λ u. IsRefusal u B e) h.added.unicode g)

  module _ (A : Texts) where
    -- behind what has no texts
    pub adds_behind : Adds a no_text s t → Adds b A t u → Adds (a >> b) A s u
    adds_behind = adds_then no_text A A (λ inner casei x. inr x)

    pub lays_behind : {X : Type 0} (r : Result X Error) → Adds a no_text s t → Lays b A t u r → Lays (a >> b) A s u r
    lays_behind = lays_then no_text A A (λ inner casei x. inr x) (λ inner casei x. x)

    -- before what has no texts
    pub adds_before : Adds a A s t → Adds b no_text t u → Adds (a >> b) A s u
    adds_before = adds_then A no_text A (λ inner casei x. inl x)

    pub lays_before : {X : Type 0} (r : Result X Error) → Adds a A s t → Lays b no_text t u r → Lays (a >> b) A s u r
    lays_before = lays_then A no_text A (λ inner casei x. inl x) (λ inner casei x. absurd x)

-- ---- a state that is written over once what follows stands

headed_by : (p : List plain.NfaState) (y q : plain.NfaState) (head : ℕ → ℕ → plain.NfaState) (rest : NfaCode) (u : List plain.NfaState) →
    u ≡ p ++ (one y >> rest) (length p) → q ≡ head (length p) (length u) → slice_set u (length p) q ≡ p ++ headed head rest (length p)
headed_by p y q head rest u is at =
    let below = rest (length p + 1) in
    let end : length u ≡ length p + 1 + length below = omega (arith, ap length is, length-append p (y ∷ below)) in
    ap (λ l. slice_set l (length p) q) is ∙ set-append_seam p y below q
    ∙ ap (λ x. p ++ x ∷ below) (at ∙ ap (head (length p)) end)

pub adds_headed : (y q : plain.NfaState) (head : ℕ → ℕ → plain.NfaState) (rest : NfaCode) (A : Texts) (s t u : Layout) (here : ℕ) →
    here ≡ length (states_in s) → q ≡ head here (length (states_in t)) →
    Adds (one y >> rest) A s t → Replaces (slice_set (states_in t) here q) t u → Adds (headed head rest) A s u
adds_headed y q head rest A s t u here at is h g = record {
  added = subst (λ l. Replaces l s u)
      (ap (λ n. slice_set (states_in t) n q) at
      ∙ headed_by (states_in s) y q head rest (states_in t) h.added.states (is ∙ ap (λ n. head n (length (states_in t))) at))
      (replaced_then _ _ s t u h.added g);
  classes = h.classes;
}

-- ---- jumps

pub no_items : (l : List ℕ) → length l ≡ 0 → l ≡ []
no_items [] h = refl
no_items (x ∷ l) h = absurd (omega arith)

pub same_states : (s : Layout) → Replaces (states_in s) s s
same_states s = record { states = refl; unicode = refl; reads = λ each. each }

pub with_jumps_last : (js : List ℕ) (j end : ℕ) (l : List plain.NfaState) → with_jumps (js ++ j ∷ []) end l ≡ with_jumps js end (slice_set l j (plain.Jump end))
with_jumps_last [] j end l = refl
with_jumps_last (k ∷ js) j end l = ap (λ m. slice_set m k (plain.Jump end)) (with_jumps_last js j end l)

-- ---- errors that are passed on

pub lays_fault : {X : Type 0} (code : NfaCode) (A : Texts) (s t : Layout) (r : Result X Error) (d : Error) → IsErr r × IsErrAnd r (λ e. e ≡ d) →
    IsRefusal s.unicode A d → Lays code A s t r
lays_fault code A s t (Ok x) d h is = absurd (true≢false (sym h.0))
lays_fault code A s t (Err e) d h is = subst (IsRefusal s.unicode A) (sym h.1) is

-- ---- code that is the same at this place

module _ (a b : NfaCode) (A : Texts) (s t : Layout) (same : a (length (states_in s)) ≡ b (length (states_in s))) where
  pub adds_at : Adds a A s t → Adds b A s t
  adds_at h = record { added = subst (λ l. Replaces (states_in s ++ l) s t) same h.added; classes = h.classes }

  pub lays_at : {X : Type 0} (r : Result X Error) → Lays a A s t r → Lays b A s t r
  lays_at (Ok x) h = adds_at h
  lays_at (Err e) h = h

-- ---- loops

module _ (body : NfaCode) (A : Texts) (s t1 t2 t3 t4 : Layout) (head : ℕ → ℕ → plain.NfaState) (q : plain.NfaState) (here : ℕ) where
  -- a head that is written over, the body, and the jump to the head
  pub adds_around : here ≡ length (states_in s) → q ≡ head here (length (states_in t3)) → Adds (one (plain.Jump 0)) no_text s t1 → Adds body A t1 t2 →
      Adds (one (plain.Jump here)) no_text t2 t3 → Replaces (slice_set (states_in t3) here q) t3 t4 → Adds (around head body) A s t4
  adds_around at is jump laid back over =
      let rest : NfaCode = body >> one (plain.Jump here) in
      adds_at (headed head rest) (around head body) A s t4 (ap (λ n. headed head (body >> one (plain.Jump n)) (length (states_in s))) at)
      (adds_headed (plain.Jump 0) q head rest A s t3 t4 here at is
      (adds_behind (one (plain.Jump 0)) rest s t1 t3 A jump (adds_before body (one (plain.Jump here)) t1 t2 t3 A laid back)) over)
