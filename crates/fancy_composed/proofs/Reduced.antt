-- The first state of each key, found by the keys that occurred before; so lists that are alike are equal up to every
-- key.
use Rattle.std.proofs.Common.{◌≡◌, ℕ, zero, suc, ◌+◌, ◌<◌, ◌≤◌, Bool, true, false, ◌||◌, not, if◌then◌else◌, cond, List, [], ◌∷◌, find, filter, Option, Some, None, bytes_eq, ◌&&◌, eq-eqb, refl, sym, ap, ◌∙◌, subst, arith}
use Rattle.std.proofs.lemmas.Option.{same_Some}
use Rattle.std.proofs.lemmas.Slice.Eq.{bytes_eq-Decides}
use Rattle.std.proofs.lemmas.Bool.{or_right}
use Rattle.fancy_meaning.specs.MatchState.{MatchState}
use Rattle.fancy_meaning.specs.Keys.{Key, reduced, EqualUpTo}
use Rattle.fancy_composed.proofs.Alike.{Alike}

-- the keys that occurred before, as a test
abbrev pub Seen : Type 0
Seen = List ℕ → Bool

abbrev pub with_key : List ℕ → Seen → Seen
with_key k seen other = bytes_eq k other || seen other

-- each state whose key did not occur before
abbrev pub reduced_from : Seen → Key → List MatchState → List MatchState
reduced_from seen by [] = []
reduced_from seen by (s ∷ ss) =
    if seen (by s) then reduced_from seen by ss else s ∷ reduced_from (with_key (by s) seen) by ss

filter_everything : {A : Type 0} (xs : List A) → filter (λ x. true) xs ≡ xs
filter_everything [] = refl
filter_everything (x ∷ xs) = ap (λ l. x ∷ l) (filter_everything xs)

module _ (by : Key) where
  abbrev is_new : Seen → MatchState → Bool
  is_new seen s = not (seen (by s))

  abbrev differs : List ℕ → MatchState → Bool
  differs k s = not (bytes_eq k (by s))

  -- what is new after a key is new, and has another one
  new_and_different : (seen : Seen) (k : List ℕ) (ss : List MatchState) →
      filter (is_new (with_key k seen)) ss ≡ filter (is_new seen) (filter (differs k) ss)
  new_and_different seen k [] = refl
  new_and_different seen k (s ∷ ss) = split (bytes_eq k (by s)) (new_and_different seen k ss)
    where
      split : (u : Bool) → filter (is_new (with_key k seen)) ss ≡ filter (is_new seen) (filter (differs k) ss) →
          cond (not (u || seen (by s))) (s ∷ filter (is_new (with_key k seen)) ss) (filter (is_new (with_key k seen)) ss)
          ≡ filter (is_new seen) (cond (not u) (s ∷ filter (differs k) ss) (filter (differs k) ss))
      split true ih = ih
      split false ih = ap (λ l. cond (not (seen (by s))) (s ∷ l) l) ih

  -- a key that was seen is no new one
  new_is_different : (seen : Seen) (k : List ℕ) → seen k ≡ true → (ss : List MatchState) →
      filter (is_new seen) ss ≡ filter (is_new seen) (filter (differs k) ss)
  new_is_different seen k old [] = refl
  new_is_different seen k old (s ∷ ss) = split (bytes_eq k (by s)) refl (new_is_different seen k old ss)
    where
      split : (u : Bool) → bytes_eq k (by s) ≡ u → filter (is_new seen) ss ≡ filter (is_new seen) (filter (differs k) ss) →
          cond (not (seen (by s))) (s ∷ filter (is_new seen) ss) (filter (is_new seen) ss)
          ≡ filter (is_new seen) (cond (not u) (s ∷ filter (differs k) ss) (filter (differs k) ss))
      split true e ih =
          let seen_too : seen (by s) ≡ true = ap seen (sym ((bytes_eq-Decides k (by s)).0 e)) ∙ old in
          ap (λ v. cond (not v) (s ∷ filter (is_new seen) ss) (filter (is_new seen) ss)) seen_too ∙ ih
      split false e ih = ap (λ l. cond (not (seen (by s))) (s ∷ l) l) ih

  reduced_is_new : (seen : Seen) (ss : List MatchState) → reduced_from seen by ss ≡ filter (is_new seen) (reduced by ss)
  reduced_is_new seen [] = refl
  reduced_is_new seen (s ∷ ss) =
      split (seen (by s)) refl (reduced_is_new seen ss) (reduced_is_new (with_key (by s) seen) ss)
    where
      rest : List MatchState
      rest = filter (differs (by s)) (reduced by ss)

      split : (v : Bool) → seen (by s) ≡ v → reduced_from seen by ss ≡ filter (is_new seen) (reduced by ss) →
          reduced_from (with_key (by s) seen) by ss ≡ filter (is_new (with_key (by s) seen)) (reduced by ss) →
          (if v then reduced_from seen by ss else s ∷ reduced_from (with_key (by s) seen) by ss)
          ≡ cond (not v) (s ∷ filter (is_new seen) rest) (filter (is_new seen) rest)
      split true e ih ih' = ih ∙ new_is_different seen (by s) e (reduced by ss)
      split false e ih ih' = ap (λ l. s ∷ l) (ih' ∙ new_and_different seen (by s) (reduced by ss))

  -- the first state of each key is each one whose key did not occur before
  pub reduced_by_seen : (ss : List MatchState) → reduced by ss ≡ reduced_from (λ k. false) by ss
  reduced_by_seen ss = sym (reduced_is_new (λ k. false) ss ∙ filter_everything (reduced by ss))

  -- the first new state, and then the rest with its key seen
  abbrev from_new : Seen → List MatchState → Option MatchState → List MatchState
  from_new seen hs None = []
  from_new seen hs (Some s) = s ∷ reduced_from (with_key (by s) seen) by hs

  -- what was seen is still seen
  still : (seen : Seen) (k : List ℕ) (h : MatchState) → seen (by h) ≡ true → with_key k seen (by h) ≡ true
  still seen k h e = or_right (bytes_eq k (by h)) (seen (by h)) e

  skipped : (seen : Seen) (h : MatchState) (hs : List MatchState) → seen (by h) ≡ true →
      reduced_from seen by (h ∷ hs) ≡ reduced_from seen by hs
  skipped seen h hs e = ap (λ v. if v then reduced_from seen by hs else h ∷ reduced_from (with_key (by h) seen) by hs) e

  same_bytes : (k : List ℕ) → bytes_eq k k ≡ true
  same_bytes [] = refl
  same_bytes (x ∷ k) = ap (λ v. v && bytes_eq k k) (eq-eqb x x refl) ∙ same_bytes k

  seen_now : (seen : Seen) (h : MatchState) → with_key (by h) seen (by h) ≡ true
  seen_now seen h = ap (λ v. v || seen (by h)) (same_bytes (by h))

  by_new : (seen : Seen) (hs : List MatchState) → reduced_from seen by hs ≡ from_new seen hs (find (λ s. not (seen (by s))) hs)
  by_new seen [] = refl
  by_new seen (h ∷ hs) = split (seen (by h)) refl (by_new seen hs)
    where
      past : (o : Option MatchState) → seen (by h) ≡ true → from_new seen hs o ≡ from_new seen (h ∷ hs) o
      past None e = refl
      past (Some s) e = ap (λ l. s ∷ l) (sym (skipped (with_key (by s) seen) h hs (still seen (by s) h e)))

      split : (v : Bool) → seen (by h) ≡ v → reduced_from seen by hs ≡ from_new seen hs (find (λ s. not (seen (by s))) hs) →
          (if v then reduced_from seen by hs else h ∷ reduced_from (with_key (by h) seen) by hs) ≡ from_new seen (h ∷ hs)
          (cond (not v) (Some h) (find (λ s. not (seen (by s))) hs))
      split true e ih = ih ∙ past (find (λ s. not (seen (by s))) hs) e
      split false e ih = ap (λ l. h ∷ l) (sym (skipped (with_key (by h) seen) h hs (seen_now seen h)))

  -- how many have a key that was not seen
  abbrev one_unless : Bool → ℕ
  one_unless v = if v then 0 else 1

  unseen : Seen → List MatchState → ℕ
  unseen seen [] = 0
  unseen seen (h ∷ hs) = one_unless (seen (by h)) + unseen seen hs

  fewer : (seen : Seen) (k : List ℕ) (hs : List MatchState) → unseen (with_key k seen) hs ≤ unseen seen hs
  unfolding unseen
  fewer seen k [] = omega arith
  fewer seen k (h ∷ hs) =
      let rest = fewer seen k hs in
      elim (bytes_eq k (by h)) as
      (λ u. one_unless (u || seen (by h)) + unseen (with_key k seen) hs ≤ one_unless (seen (by h)) + unseen seen hs) [
        | true ↦ omega arith
        | false ↦ omega arith
      ]

  one_fewer : (seen : Seen) (s : MatchState) (hs : List MatchState) → find (λ x. not (seen (by x))) hs ≡ Some s →
      unseen (with_key (by s) seen) hs < unseen seen hs
  unfolding unseen
  one_fewer seen s [] e = cc
  one_fewer seen s (h ∷ hs) e = split (seen (by h)) refl e (λ f. one_fewer seen s hs f)
    where
      split : (v : Bool) → seen (by h) ≡ v → cond (not v) (Some h) (find (λ x. not (seen (by x))) hs) ≡ Some s →
          (find (λ x. not (seen (by x))) hs ≡ Some s → unseen (with_key (by s) seen) hs < unseen seen hs) → one_unless
          (with_key (by s) seen (by h)) + unseen (with_key (by s) seen) hs < one_unless (seen (by h)) + unseen seen hs
      split true g e' ih =
          let rest = ih e' in
          let a = ap one_unless (still seen (by s) h g) in
          let b = ap one_unless g in
          omega (arith, rest, a, b)
      split false g e' ih =
          let same : h ≡ s = same_Some h s e' in
          let rest = fewer seen (by s) hs in
          let a = ap one_unless (subst (λ x. with_key (by x) seen (by h) ≡ true) same (seen_now seen h)) in
          let b = ap one_unless g in
          omega (arith, rest, a, b)

  by_find : (seen : Seen) (hs qs : List MatchState) →
      ((s : MatchState) → find (λ x. not (seen (by x))) hs ≡ Some s →
      reduced_from (with_key (by s) seen) by hs ≡ reduced_from (with_key (by s) seen) by qs) →
      (o : Option MatchState) → find (λ x. not (seen (by x))) hs ≡ o → from_new seen hs o ≡ from_new seen qs o
  by_find seen hs qs rest None e = refl
  by_find seen hs qs rest (Some s) e = ap (λ l. s ∷ l) (rest s e)

  alike_reduced : (n : ℕ) (seen : Seen) (hs qs : List MatchState) → unseen seen hs ≤ n → Alike hs qs →
      reduced_from seen by hs ≡ reduced_from seen by qs
  alike_reduced zero seen hs qs le alike =
      by_new seen hs
      ∙ by_find seen hs qs (λ s e. let f = one_fewer seen s hs e in absurd (omega (arith, f, le)))
      (find (λ x. not (seen (by x))) hs) refl
      ∙ ap (from_new seen qs) (alike.tests (λ x. not (seen (by x)))) ∙ sym (by_new seen qs)
  alike_reduced (suc n) seen hs qs le alike =
      by_new seen hs
      ∙ by_find seen hs qs
      (λ s e. let f = one_fewer seen s hs e in alike_reduced n (with_key (by s) seen) hs qs (omega (arith, f, le)) alike)
      (find (λ x. not (seen (by x))) hs) refl
      ∙ ap (from_new seen qs) (alike.tests (λ x. not (seen (by x)))) ∙ sym (by_new seen qs)

  pub alike_key_equal : (hs qs : List MatchState) → Alike hs qs → EqualUpTo by hs qs
  alike_key_equal hs qs alike =
      reduced_by_seen hs
      ∙ alike_reduced (unseen (λ k. false) hs) (λ k. false) hs qs (omega arith) alike
      ∙ sym (reduced_by_seen qs)
