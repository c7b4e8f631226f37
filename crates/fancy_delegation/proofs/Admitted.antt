-- The last test of an attempt, whether a way is admitted, leaves the same chosen way of a list equal up to the easy key
-- from the attempt's start.
use Rattle.std.proofs.Common.{◌≡◌, ◌≢◌, ◌⊎◌, inl, inr, ℕ, ◌<◌, ◌≤◌, ◌-◌, nat_le, Bool, true, false, not, ◌&&◌, if◌then◌else◌, ◌==◌, List, [], ◌∷◌, length, filter, Some, slice_get, refl, sym, ap, ap₂, ◌∙◌, arith, eq-eqb, ne_eqb}
use Rattle.std.proofs.lemmas.Bool.{and_right, cases_order}
use Rattle.regex_hir.specs.Text.{is_some_and, byte_before}
use Rattle.fancy_meaning.specs.MatchState.{MatchState}
use Rattle.fancy_meaning.specs.Answer.{Search, search_of, is_empty_at_end, is_admitted, reported, chosen}
use Rattle.fancy_meaning.specs.Options.{Plan, RunOptions}
use Rattle.fancy_meaning.specs.Keys.{easy_key}
use Rattle.fancy_laws.proofs.Every.{Every, no_item, item, every_weaker}
use Rattle.fancy_laws.proofs.Chosen.{same_chosen}
use Rattle.fancy_delegation.proofs.FindsAlike.{find_first}
use Rattle.fancy_delegation.proofs.Reduced.{Same}
use Rattle.fancy_delegation.proofs.KeyParts.{moved_from, moved_by_end, place_by_end, easy_key_tells}
use Rattle.fancy_delegation.proofs.IsRefined.{IsRefined, refined_every}

first_that_passes : {A : Type 0} (test : A → Bool) (xs : List A) → slice_get (filter test xs) 0 ≡ find_first test xs
first_that_passes test [] = refl
first_that_passes {A} test (x ∷ xs) = here (test x) (first_that_passes test xs)
  where
    here : (v : Bool) → slice_get (filter test xs) 0 ≡ find_first test xs →
        slice_get (if v then x ∷ filter test xs else filter test xs) 0 ≡ (if v then Some x else find_first test xs)
    here true h = refl
    here false h = h

tests_agree : {A : Type 0} (p r : A → Bool) {xs : List A} → Every (λ x. p x ≡ r x) xs → find_first p xs ≡ find_first r xs
tests_agree p r no_item = refl
tests_agree p r (item {x = x} e h) = ap₂ (λ v rest. if v then Some x else rest) e (tests_agree p r h)

-- the same first state, by a test that agrees on the second list with one that respects the key
pub same_first : {key : MatchState → MatchState → Type 0} {hs qs : List MatchState} (p r : MatchState → Bool) →
    ((s t : MatchState) → key s t → r s ≡ r t) → Every (λ s. p s ≡ r s) qs → IsRefined key hs qs →
    slice_get (filter p hs) 0 ≡ slice_get (filter p qs) 0
same_first {hs = hs} {qs = qs} p r ok agree h =
    first_that_passes p hs ∙ tests_agree p r (refined_every h agree) ∙ (h.alike).by r ok
    ∙ sym (tests_agree p r agree) ∙ sym (first_that_passes p qs)

and_true : (v : Bool) → (v && true) ≡ v
and_true true = refl
and_true false = refl

module _ (p : Plan) (text : List ℕ) (o : RunOptions) (start : ℕ) where
  abbrev q : Search
  q = search_of p text o

  -- an attempt from here that takes nothing ends at the text's end after an LF
  abbrev ends_after_newline : Bool
  ends_after_newline = start == length text && is_some_and (byte_before text start) (λ b. b == 10)

  -- what is tested, without the place
  abbrev admits : MatchState → Bool
  admits s = not (q.not_empty && not (moved_from p start s)) && not (q.end_text && ends_after_newline && not s.text_end)

  -- within the attempt
  pub record IsWithin (s : MatchState) : Type 0 where
    pub from_start : start ≤ s.place
    pub in_text : s.place ≤ length text

  admits_by_key : (s t : MatchState) → Same (easy_key p start) s t → admits s ≡ admits t
  admits_by_key s t e =
      let both = easy_key_tells p start s t e in
      ap₂ (λ v w. not (q.not_empty && not v) && not w) (moved_by_end p start s t both.0) (flags q.end_text refl (both.1).flag)
    where
      flags : (v : Bool) → q.end_text ≡ v → (q.end_text && s.text_end) ≡ (q.end_text && t.text_end) →
          (q.end_text && ends_after_newline && not s.text_end) ≡ (q.end_text && ends_after_newline && not t.text_end)
      flags true on e =
          let flag : s.text_end ≡ t.text_end =
          sym (ap (λ v. v && s.text_end) on) ∙ e ∙ ap (λ v. v && t.text_end) on in
          ap (λ v. q.end_text && ends_after_newline && not v) flag
      flags false off e = ap (λ v. v && ends_after_newline && not s.text_end) off ∙ sym (ap (λ v. v && ends_after_newline && not t.text_end) off)

  module _ (asked : o.not_empty ≡ true → p.analysis.find_not_empty ≡ true) where
    took : (s : MatchState) → (v : Bool) → o.not_empty ≡ v → (o.not_empty && s.place == start) ≡ (o.not_empty && not (moved_from p start s))
    took s true on = ap (λ v. o.not_empty && v) (here (p.analysis.find_not_empty) (asked on) (s.place == start))
      where
        here : (v : Bool) → v ≡ true → (w : Bool) → w ≡ not (v && not w)
        here true e true = refl
        here true e false = refl
        here false e w = cc
    took s false off = ap (λ v. v && s.place == start) off ∙ sym (ap (λ v. v && not (moved_from p start s)) off)

    at_end : (s : MatchState) → IsWithin s → is_empty_at_end q start s ≡ ends_after_newline
    at_end s within = here (cases_order s.place start)
      where
        at : ℕ → Bool
        at i = i == length text && is_some_and (byte_before text i) (λ b. b == 10)

        away : s.place ≢ start → (at s.place && s.place == start) ≡ at start
        away n =
            ap (λ v. at s.place && v) (ne_eqb s.place start n) ∙ and_right (at s.place) false refl
            ∙ sym
            (ap (λ v. v && is_some_and (byte_before text start) (λ b. b == 10))
            (ne_eqb start (length text) (λ e. n (omega (arith, e, within.from_start, within.in_text)))))

        here : (s.place ≡ start) ⊎ ((s.place < start) ⊎ (start < s.place)) → (at s.place && s.place == start) ≡ at start
        here (inl e) = ap (λ i. at i && i == start) e ∙ ap (λ v. at start && v) (eq-eqb start start refl) ∙ and_true (at start)
        here (inr (inl lt)) = away (λ e. omega (arith, lt, e))
        here (inr (inr lt)) = away (λ e. omega (arith, lt, e))

    admitted_is : (s : MatchState) → IsWithin s → is_admitted q start s ≡ admits s
    admitted_is s w = ap₂ (λ v u. not v && not (q.end_text && u && not s.text_end)) (took s o.not_empty refl) (at_end s w)

    -- where the longest match is asked for the key tells how long a state's is
    as_long : p.analysis.leftmost_longest ≡ true → (s t : MatchState) → Same (easy_key p start) s t → reported s ≡ reported t
    as_long on s t e =
        let both = easy_key_tells p start s t e in
        ap₂ (λ i j. i - j) (place_by_end p on start s t both.0) (both.1).kept

    pub same_admitted : (o.leftmost_longest ≡ true → p.analysis.leftmost_longest ≡ true) → {hs qs : List MatchState} →
        Every IsWithin qs → IsRefined (Same (easy_key p start)) hs qs →
        chosen o.leftmost_longest (filter (is_admitted q start) hs) ≡ chosen o.leftmost_longest (filter (is_admitted q start) qs)
    same_admitted longest {hs} {qs} within h =
        same_chosen o.leftmost_longest (is_admitted q start) hs qs
        (same_first (is_admitted q start) admits admits_by_key (every_weaker admitted_is within) h)
        (λ on k.
        same_first (λ s. is_admitted q start s && nat_le k (reported s)) (λ s. admits s && nat_le k (reported s))
        (λ s t e. ap₂ (λ v n. v && nat_le k n) (admits_by_key s t e) (as_long (longest on) s t e))
        (every_weaker (λ s w. ap (λ v. v && nat_le k (reported s)) (admitted_is s w)) within) h)
