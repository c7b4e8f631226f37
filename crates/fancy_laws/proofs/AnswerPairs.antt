-- The numbers of an answer are pairs of places in order, or pairs that are unset.
use Rattle.std.proofs.Common.{◌≡◌, ℕ, zero, suc, inl, inr, ⊎_elim, min, true, List, ◌++◌, Option, Some, None, IfSome, IsTrue, filter_map, flat_map, slice_get, option_map, refl, sym, subst, arith}
use Rattle.std.proofs.lemmas.Bool.{cases_lt}
use Rattle.std.specs.List.{cons_option}
use Rattle.fancy_meaning.specs.Nodes.{group_count}
use Rattle.fancy_meaning.specs.Places.{is_place, range_from}
use Rattle.fancy_meaning.specs.MatchState.{MatchState, Span, first_state}
use Rattle.fancy_meaning.specs.OpenCalls.{no_calls}
use Rattle.fancy_meaning.specs.Answer.{Search, span_numbers, as_numbers, starts, is_admitted, attempt, answer}
use Rattle.fancy_meaning.specs.Premises.{IsText, IsSpan, HasSpans}
use Rattle.fancy_meaning.specs.Laws.{ArePairs}
use Rattle.fancy_laws.proofs.Every.{Every, no_item, item, every_one, every_if, every_filter, every_first, every_weaker}
use Rattle.fancy_laws.proofs.WaysOf.{every_place_from}
use Rattle.fancy_laws.proofs.Chosen.{every_chosen}
use Rattle.fancy_laws.proofs.AtPlaces.{StandsAtPlaces, ways_go_by_places, first_stands}

pub every_filter_map : {A B : Type 0} {P : A → Type 0} {Q : B → Type 0} {xs : List A} (h : A → Option B) →
    ((x : A) → P x → IfSome (h x) Q) → Every P xs → Every Q (filter_map h xs)
every_filter_map h k no_item = no_item
every_filter_map {Q} h k (item {x = x} {xs = xs} p rest) = go (h x) (k x p) (every_filter_map h k rest)
  where
    go : (o : Option _) → IfSome o Q → Every Q (filter_map h xs) → Every Q (cons_option o (filter_map h xs))
    go None q r = r
    go (Some y) q r = item q r

pub every_start : (q : Search) → is_place q.text q.pos ≡ true → Every (λ i. is_place q.text i ≡ true) (starts q)
every_start q at = every_if q.anchored (λ e. every_one at) (λ e. every_weaker (λ i b. b.1) (every_place_from q.text q.pos))

min_is_place : (text : List ℕ) (i j : ℕ) → is_place text i ≡ true → is_place text j ≡ true → is_place text (min i j) ≡ true
min_is_place text i j a b = ⊎_elim
    (λ lt. let e : min i j ≡ i = omega (arith, lt) in subst (λ k. is_place text k ≡ true) (sym e) a)
    (λ ge. let e : min i j ≡ j = omega (arith, ge) in subst (λ k. is_place text k ≡ true) (sym e) b)
    (cases_lt i j)

spans_are_pairs : (text : List ℕ) (captures : ℕ → Option Span) → HasSpans text captures → (n g : ℕ) →
    ArePairs text (flat_map (λ h. span_numbers (captures h)) (range_from g n))
spans_are_pairs text captures has zero g = tt
spans_are_pairs text captures has (suc n) g = go _ (captures g) (has g) (spans_are_pairs text captures has n (suc g))
  where
    go : (rest : List ℕ) (o : Option Span) → ((span : Span) → o ≡ Some span → IsSpan text span) → ArePairs text rest →
        ArePairs text (span_numbers o ++ rest)
    go rest None is r = (inl (refl, refl), r)
    go rest (Some (i, j)) is r = (inr (is (i, j) refl), r)

abbrev AtPlace : List ℕ → ℕ → Type 0
AtPlace text i = IsTrue (is_place text i)

numbers_are_pairs : (text : List ℕ) (n : ℕ) (s : MatchState) → StandsAtPlaces text (AtPlace text) s → ArePairs text (as_numbers n s)
unfolding as_numbers
numbers_are_pairs text n s at =
    let first = min_is_place text s.kept s.place at.kept at.place in
    (inr (record { from = first; to = at.place; in_order = omega arith }), spans_are_pairs text s.captures at.spans n 1)

pub answers_are_pairs : (q : Search) → IsText q.text → IsTrue (is_place q.text q.pos) → IfSome (answer q) (ArePairs q.text)
unfolding answer
answers_are_pairs q is at =
    mapped (slice_get (filter_map (attempt q) (starts q)) 0)
    (every_first (every_filter_map {Q = StandsAtPlaces q.text (AtPlace q.text)} (attempt q)
    (λ start here. every_chosen q.leftmost_longest (every_filter {P = StandsAtPlaces q.text (AtPlace q.text)} (is_admitted q start) (λ t stands e. stands)
    (every_weaker (λ t goes. goes.there)
    (ways_go_by_places q.setting is.utf8 q.tree q.tree no_calls (first_state start) (first_stands q.text start here)))))
    (every_start q at)))
  where
    mapped : (o : Option MatchState) → IfSome o (StandsAtPlaces q.text (AtPlace q.text)) →
        IfSome (option_map (as_numbers (group_count q.tree)) o) (ArePairs q.text)
    mapped None h = tt
    mapped (Some s) h = numbers_are_pairs q.text (group_count q.tree) s h
