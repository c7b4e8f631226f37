-- Two lists are equal up to a key exactly where every test that respects the key finds the same first state in both.
use Rattle.std.proofs.Common.{◌≡◌, ◌↔◌, Bool, true, false, not, if◌then◌else◌, List, [], ◌∷◌, Option, Some, None, refl, sym, ap, ◌∙◌, ⊎_elim}
use Rattle.std.specs.Prelude.{bytes_eq}
use Rattle.std.proofs.lemmas.Slice.Eq.{bytes_eq-Decides}
use Rattle.std.proofs.lemmas.Bool.{or_cases, or_left, or_right}
use Rattle.fancy_meaning.specs.MatchState.{MatchState}
use Rattle.fancy_meaning.specs.Keys.{Key, EqualUpTo}
use Rattle.fancy_composed.proofs.Reduced.{Seen, with_key, reduced_from, reduced_by_seen}
use Rattle.fancy_delegation.proofs.FindsAlike.{find_first, FindsAlike}

-- the key is the same
abbrev pub Same : Key → MatchState → MatchState → Type 0
Same by s t = by s ≡ by t

find-skip : (p : MatchState → Bool) (x : MatchState) (xs : List MatchState) → p x ≡ false → find_first p (x ∷ xs) ≡ find_first p xs
find-skip p x xs e = ap (λ v. if v then Some x else find_first p xs) e

find-take : (p : MatchState → Bool) (x : MatchState) (xs : List MatchState) → p x ≡ true → find_first p (x ∷ xs) ≡ Some x
find-take p x xs e = ap (λ v. if v then Some x else find_first p xs) e

module _ (by : Key) where
  abbrev Respects : (MatchState → Bool) → Type 0
  Respects p = (x y : MatchState) → by x ≡ by y → p x ≡ p y

  -- the test holds of nothing that was seen
  abbrev Unseen : Seen → (MatchState → Bool) → Type 0
  Unseen seen p = (x : MatchState) → seen (by x) ≡ true → p x ≡ false

  unseen_too : (seen : Seen) (p : MatchState → Bool) (x : MatchState) → Respects p → Unseen seen p → p x ≡ false → Unseen (with_key (by x) seen) p
  unseen_too seen p x ok u e y h =
      ⊎_elim (λ same. sym (ok x y ((bytes_eq-Decides (by x) (by y)).0 same)) ∙ e) (u y) (or_cases (bytes_eq (by x) (by y)) (seen (by y)) h)

  find-reduced : (p : MatchState → Bool) → Respects p → (seen : Seen) (xs : List MatchState) → Unseen seen p →
      find_first p (reduced_from seen by xs) ≡ find_first p xs
  find-reduced p ok seen [] u = refl
  find-reduced p ok seen (x ∷ xs) u = here (seen (by x)) refl (p x) refl (find-reduced p ok seen xs u) (find-reduced p ok (with_key (by x) seen) xs)
    where
      here : (v : Bool) → seen (by x) ≡ v → (w : Bool) → p x ≡ w →
          find_first p (reduced_from seen by xs) ≡ find_first p xs →
          (Unseen (with_key (by x) seen) p → find_first p (reduced_from (with_key (by x) seen) by xs)
          ≡ find_first p xs) →
          find_first p (if v then reduced_from seen by xs else x ∷ reduced_from (with_key (by x) seen) by xs)
          ≡ find_first p (x ∷ xs)
      here true s w q ih ih' = ih ∙ sym (find-skip p x xs (u x s))
      here false s true q ih ih' = find-take p x (reduced_from (with_key (by x) seen) by xs) q ∙ sym (find-take p x xs q)
      here false s false q ih ih' =
          find-skip p x (reduced_from (with_key (by x) seen) by xs) q ∙ ih' (unseen_too seen p x ok u q)
          ∙ sym (find-skip p x xs q)

  -- the test for what is new
  abbrev is_new : Seen → MatchState → Bool
  is_new seen x = not (seen (by x))

  new_ok : (seen : Seen) → Respects (is_new seen)
  new_ok seen x y e = ap (λ k. not (seen k)) e

  new_unseen : (seen : Seen) → Unseen seen (is_new seen)
  new_unseen seen x e = ap not e

  -- alike for every test that respects the key and holds of nothing that was seen
  abbrev Alike : Seen → List MatchState → List MatchState → Type 0
  Alike seen hs qs = (p : MatchState → Bool) → Respects p → Unseen seen p → find_first p hs ≡ find_first p qs

  same_new : (seen : Seen) (hs qs : List MatchState) → Alike seen hs qs → find_first (is_new seen) hs ≡ find_first (is_new seen) qs
  same_new seen hs qs alike = alike (is_new seen) (new_ok seen) (new_unseen seen)

  all_old : (seen : Seen) (qs : List MatchState) → find_first (is_new seen) qs ≡ None → [] ≡ reduced_from seen by qs
  all_old seen [] e = refl
  all_old seen (q ∷ qs) e = here (seen (by q)) e (all_old seen qs)
    where
      here : (v : Bool) → ◌≡◌ {A = Option MatchState} (if not v then Some q else find_first (is_new seen) qs) None →
          (find_first (is_new seen) qs ≡ None → [] ≡ reduced_from seen by qs) →
          [] ≡ (if v then reduced_from seen by qs else q ∷ reduced_from (with_key (by q) seen) by qs)
      here true e' ih = ih e'
      here false e' ih = cc

  -- the first list begins with what is new
  meet : (seen : Seen) (h : MatchState) (hs qs : List MatchState) → seen (by h) ≡ false →
      ((qs' : List MatchState) → Alike (with_key (by h) seen) hs qs' → reduced_from (with_key (by h) seen) by hs
      ≡ reduced_from (with_key (by h) seen) by qs') → Alike seen (h ∷ hs) qs →
      h ∷ reduced_from (with_key (by h) seen) by hs ≡ reduced_from seen by qs
  meet seen h hs [] s next alike = let e = sym (find-take (is_new seen) h hs (ap not s)) ∙ same_new seen (h ∷ hs) [] alike in cc
  meet seen h hs (q ∷ qs) s next alike = here (seen (by q)) refl (meet seen h hs qs s next)
    where
      here : (v : Bool) → seen (by q) ≡ v →
          (Alike seen (h ∷ hs) qs → h ∷ reduced_from (with_key (by h) seen) by hs ≡ reduced_from seen by qs) →
          h ∷ reduced_from (with_key (by h) seen) by hs
          ≡ (if v then reduced_from seen by qs else q ∷ reduced_from (with_key (by q) seen) by qs)
      here true t ih = ih (λ p ok u. alike p ok u ∙ find-skip p q qs (u q t))
      here false t ih =
          let e : Some h ≡ Some q = sym (find-take (is_new seen) h hs (ap not s))
          ∙ same_new seen (h ∷ hs) (q ∷ qs) alike ∙ find-take (is_new seen) q qs (ap not t) in
          let same_item : h ≡ q = cc in
          ap (λ l. h ∷ l) (next qs (λ p ok u.
          let off : p h ≡ false = u h (or_left (bytes_eq (by h) (by h)) (seen (by h)) ((bytes_eq-Decides (by h) (by h)).1 refl)) in
          sym (find-skip p h hs off) ∙ alike p ok (λ x r. u x (or_right (bytes_eq (by h) (by x)) (seen (by x)) r))
          ∙ find-skip p q qs (ap p (sym same_item) ∙ off)))
          ∙ ap (λ x. x ∷ reduced_from (with_key (by x) seen) by qs) same_item

  reduced_alike : (hs qs : List MatchState) (seen : Seen) → Alike seen hs qs → reduced_from seen by hs ≡ reduced_from seen by qs
  reduced_alike [] qs seen alike = all_old seen qs (sym (same_new seen [] qs alike))
  reduced_alike (h ∷ hs) qs seen alike = here (seen (by h)) refl (reduced_alike hs qs seen) (λ qs'. reduced_alike hs qs' (with_key (by h) seen))
    where
      here : (v : Bool) → seen (by h) ≡ v → (Alike seen hs qs → reduced_from seen by hs ≡ reduced_from seen by qs) →
          ((qs' : List MatchState) → Alike (with_key (by h) seen) hs qs' →
          reduced_from (with_key (by h) seen) by hs ≡ reduced_from (with_key (by h) seen) by qs') →
          (if v then reduced_from seen by hs else h ∷ reduced_from (with_key (by h) seen) by hs)
          ≡ reduced_from seen by qs
      here true s ih ih' = ih (λ p ok u. sym (find-skip p h hs (u h s)) ∙ alike p ok u)
      here false s ih ih' = meet seen h hs qs s ih' alike

  pub key_equal-alike : (hs qs : List MatchState) → EqualUpTo by hs qs ↔ FindsAlike (Same by) hs qs
  key_equal-alike hs qs = (
    λ e. let same = sym (reduced_by_seen by hs) ∙ e ∙ reduced_by_seen by qs in
        record {
          by = λ p ok.
              sym (find-reduced p ok (λ k. false) hs (λ x r. cc))
              ∙ ap (find_first p) same
              ∙ find-reduced p ok (λ k. false) qs (λ x r. cc);
        },
    λ t. reduced_by_seen by hs ∙ reduced_alike hs qs (λ k. false) (λ p ok u. t.by p ok) ∙ sym (reduced_by_seen by qs),
  )
