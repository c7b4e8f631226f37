-- Lookbehinds and absent repeaters.
use Rattle.std.proofs.Common.{◌≡◌, ℕ, zero, suc, ◌≤◌, Bool, true, false, if◌then◌else◌, ◌==◌, List, [], ◌∷◌, map, flat_map, filter, reverse, refl, sym, ap, ap₂, ◌∙◌, subst₂, arith, eq-eqb, eqb-true, ne_eqb}
use Rattle.std.proofs.lemmas.Bool.{eqb-false}
use Rattle.fancy_meaning.specs.Places.{is_place, range_from, range_down, places_from, places_back, chars_between}
use Rattle.fancy_meaning.specs.MatchState.{MatchState, Ways, has_way, moved_to}
use Rattle.fancy_meaning.specs.Ways.{Setting, take_through, absent, ends_here}
use Rattle.fancy_meaning.specs.Options.{Plan}
use Rattle.fancy_meaning.specs.Keys.{easy_key}
use Rattle.fancy_meaning.specs.Premises.{IsSoundState}
use Rattle.fancy_laws.proofs.Every.{Every, no_item, item, every_anything, every_filter, every_weaker, every_both}
use Rattle.fancy_delegation.proofs.Reduced.{Same}
use Rattle.fancy_delegation.proofs.Counting.{same_place}
use Rattle.fancy_delegation.proofs.Evenly.{TakesExactly}
use Rattle.fancy_delegation.proofs.IsRefined.{IsRefined, refined_same, refined_every, refined_append, refined_map, refined_equal}
use Rattle.fancy_delegation.proofs.Refined.{context_key, back_together, IsPart, EqualUpTo, key_equal_where_equal, same_way}

placed_back : (text : List ℕ) (i : ℕ) → Every (λ j. (is_place text j ≡ true) × (j ≤ i)) (places_back text i)
unfolding places_back
placed_back text i = every_filter (is_place text) (λ j le e. (e, le)) (below i i (omega arith))
  where
    below : (i n : ℕ) → i ≤ n → Every (λ j. j ≤ n) (range_down i)
    below zero n le = item le no_item
    below (suc i) n le = item le (below i n (omega (arith, le)))

placed_on : (text : List ℕ) (i : ℕ) → Every (λ j. is_place text j ≡ true) (places_from text i)
unfolding places_from
placed_on text i = every_filter {P = λ j. Unit {0}} (is_place text) (λ j u e. e) (every_anything (range_from i _) (λ j. tt))

stops_same : (p r : ℕ → Bool) {is : List ℕ} → Every (λ i. p i ≡ r i) is → take_through p is ≡ take_through r is
stops_same p r no_item = refl
stops_same p r (item {x = i} e h) = ap₂ (λ v rest. i ∷ (if v then [] else rest)) e (stops_same p r h)

filter_all : {A : Type 0} (p : A → Bool) {xs : List A} → Every (λ x. p x ≡ true) xs → filter p xs ≡ xs
filter_all p no_item = refl
filter_all p (item {x = x} {xs = xs} e h) = ap (λ v. if v then x ∷ filter p xs else filter p xs) e ∙ ap (λ l. x ∷ l) (filter_all p h)

filter_none : {A : Type 0} (p : A → Bool) {xs : List A} → Every (λ x. p x ≡ false) xs → filter p xs ≡ []
filter_none p no_item = refl
filter_none p (item {x = x} {xs = xs} e h) = ap (λ v. if v then x ∷ filter p xs else filter p xs) e ∙ filter_none p h

refined_each : {key : MatchState → MatchState → Type 0} (f g : ℕ → List MatchState) {is : List ℕ} →
    Every (λ i. IsRefined key (f i) (g i)) is → IsRefined key (flat_map f is) (flat_map g is)
refined_each f g no_item = refined_same
refined_each f g (item {x = i} {xs = is} h hs) = refined_append (f i) (g i) (flat_map f is) (flat_map g is) h (refined_each f g hs)

-- a sound state at another place of the text
pub sound_at : (q : Setting) (p : Plan) (s : MatchState) (i : ℕ) → is_place q.text i ≡ true →
    IsSoundState q p.analysis.tree s → IsSoundState q p.analysis.tree (moved_to i s)
sound_at q p s i placed ok = record { place = placed; spans = ok.spans; sizes = ok.sizes }

-- states at one place that an easy key does not tell apart
refined_at : (p : Plan) (in_hard : Bool) (from before place : ℕ) {hs qs : List MatchState} →
    Every (λ s. s.place ≡ place) qs → IsRefined (Same (easy_key p before)) hs qs →
    IsRefined (Same (context_key p in_hard from)) hs qs
refined_at p in_hard from before place {hs} {qs} at h =
    subst₂ (IsRefined (Same (context_key p in_hard from))) (all_there (refined_every h at)) (all_there at)
    (refined_map (moved_to place) hs qs (back_together p in_hard from before place) h)
  where
    all_there : {xs : List MatchState} → Every (λ s. s.place ≡ place) xs → map (moved_to place) xs ≡ xs
    all_there no_item = refl
    all_there (item {x = x} {xs = xs} e h) = ap₂ (λ i l. moved_to i x ∷ l) (sym e) (all_there h)

module _ (p : Plan) (q : Setting) where
  -- The body of a lookbehind takes as much each time: so from each place before, all of its ways end here, or none does.
  module _ (n : ℕ) (k f : Ways) (part : IsPart p q f) (takes : TakesExactly q p.analysis.tree n f) (h : EqualUpTo p q false k f) where
    from_place : (in_hard : Bool) (from : ℕ) (s : MatchState) → IsSoundState q p.analysis.tree s → (i : ℕ) →
        is_place q.text i ≡ true → i ≤ s.place → (v : Bool) → (chars_between q.text i s.place == n) ≡ v →
        IsRefined (Same (context_key p in_hard from)) (filter (λ t. t.place == s.place) (k (moved_to i s)))
        (filter (λ t. t.place == s.place) (f (moved_to i s)))
    from_place in_hard from s ok i placed le true e =
        let ok' = sound_at q p s i placed ok in
        let body = h.by (moved_to i s) 0 ok' (omega arith) in
        let here : Every (λ t. t.place ≡ s.place) (f (moved_to i s)) = every_both
        (λ t on c. same_place q.text i t.place s.place on.on le (on.sound).place ok.place (c ∙ sym (eqb-true (chars_between q.text i s.place) n e)))
        (part.sound (moved_to i s) ok') (takes (moved_to i s) ok') in
        let kept = every_weaker (λ t at. eq-eqb t.place s.place at) here in
        subst₂ (IsRefined (Same (context_key p in_hard from)))
        (sym (filter_all (λ t. t.place == s.place) (refined_every body kept))) (sym (filter_all (λ t. t.place == s.place) kept))
        (refined_at p in_hard from 0 s.place here body)
    from_place in_hard from s ok i placed le false e =
        let ok' = sound_at q p s i placed ok in
        let body = h.by (moved_to i s) 0 ok' (omega arith) in
        let dropped : Every (λ t. (t.place == s.place) ≡ false) (f (moved_to i s)) =
        every_weaker
        (λ t c. ne_eqb t.place s.place
        (λ at. eqb-false (chars_between q.text i s.place) n e (ap (chars_between q.text i) (sym at) ∙ c)))
        (takes (moved_to i s) ok') in
        refined_equal (filter_none (λ t. t.place == s.place) (refined_every body dropped) ∙ sym (filter_none (λ t. t.place == s.place) dropped))

    pub key_equal_behind : (in_hard : Bool) → EqualUpTo p q in_hard (ends_here q k) (ends_here q f)
    key_equal_behind in_hard = record {
      by = λ s from ok le.
          refined_each (λ i. filter (λ t. t.place == s.place) (k (moved_to i s))) (λ i. filter (λ t. t.place == s.place) (f (moved_to i s)))
          (every_weaker (λ i at. from_place in_hard from s ok i at.0 at.1 (chars_between q.text i s.place == n) refl) (placed_back q.text s.place));
    }

  -- of the body of an absent repeater only the places count at which it has a way, whatever its context is
  pub key_equal_absent : (inner in_hard : Bool) (k f : Ways) → EqualUpTo p q inner k f → EqualUpTo p q in_hard (absent q k) (absent q f)
  key_equal_absent inner in_hard k f h =
      key_equal_where_equal p q in_hard (absent q k) (absent q f)
      (λ s ok. ap (λ l. map (λ i. moved_to i s) (reverse l))
      (stops_same (λ i. has_way k (moved_to i s)) (λ i. has_way f (moved_to i s))
      (every_weaker (λ i placed. same_way p q inner k f h (moved_to i s) (sound_at q p s i placed ok)) (placed_on q.text s.place))))
