-- Searches one after the other begin each place once, but for the starts at which two of them begin.
use Rattle.std.proofs.Common.{◌≡◌, ℕ, zero, suc, ◌+◌, ◌-◌, ◌<◌, ◌≤◌, Bool, true, false, nat_le, if◌then◌else◌, List, [], ◌∷◌, length, filter, Contains, Option, Some, None, refl, sym, ap, ◌∙◌, subst, arith, le-leb, length-append}
use Rattle.std.proofs.lemmas.Bool.{lt-leb}
use Rattle.std.proofs.lemmas.List.Elements.{filter-append}
use Rattle.std.proofs.lemmas.List.Sums.{sum_by-cons}
use Rattle.fancy_meaning.specs.Places.{range_from, is_place, places_from}
use Rattle.fancy_meaning.specs.Answer.{Search, starts, attempt}
use Rattle.fancy_laws.proofs.Every.{Every, no_item, item, every_filter, every_weaker, every_contains, every_contained}
use Rattle.fancy_laws.proofs.WaysOf.{every_place_from}
use Rattle.fancy_starts.specs.Matches.{Found, match_of}
use Rattle.fancy_starts.proofs.Firsts.{first_of, found_there}
use Rattle.fancy_starts.proofs.LaterStarts.{places_before}
use Rattle.fancy_bounds.specs.StartsBegun.{up_to, begun}
use Rattle.fancy_bounds.specs.Successive.{ComesAfter, places_of, StartsOfSuccessiveSearches, StartsOfSearchesFurtherOn, SearchesFurtherOn}

-- ---- lists

few_kept : (p : ℕ → Bool) (is : List ℕ) → length (filter p is) ≤ length is
few_kept p [] = omega arith
few_kept p (i ∷ is) =
    let rest = few_kept p is in
    elim (p i) as (λ v. length (if v then i ∷ filter p is else filter p is) ≤ suc (length is)) [
      | true ↦ omega (arith, rest)
      | false ↦ omega (arith, rest)
    ]

none_kept : (p : ℕ → Bool) (is : List ℕ) → Every (λ i. p i ≡ false) is → filter p is ≡ []
none_kept p [] h = refl
none_kept p (i ∷ is) (item e h) = ap (λ v. if v then i ∷ filter p is else filter p is) e ∙ none_kept p is h

range_on : (m n i : ℕ) → m ≤ i → Every (λ j. m ≤ j) (range_from i n)
range_on m zero i le = no_item
range_on m (suc n) i le = item le (range_on m n (suc i) (omega (arith, le)))

module _ (m : Found) where
  abbrev early : ℕ → Bool
  early start = nat_le start m.0

  -- none of the places past the start
  none_past : (text : List ℕ) (later : ℕ) → m.0 < later → length (filter early (places_from text later)) ≡ 0
  none_past text later lt =
      ap length
      (none_kept early (places_from text later)
      (every_weaker (λ j at. lt-leb j m.0 (omega (arith, lt, at.0))) (every_place_from text later)))

  -- and of those from it on only the first
  one_from : (text : List ℕ) (n later : ℕ) → m.0 ≤ later → length (filter early (filter (is_place text) (range_from later n))) ≤ 1
  one_from text zero later le = omega arith
  one_from text (suc n) later le =
      let others : List ℕ = filter (is_place text) (range_from (suc later) n) in
      let rest : filter early others ≡ [] =
      none_kept early others
      (every_filter (is_place text) (λ j at e. lt-leb j m.0 (omega (arith, at, le))) (range_on (suc later) n (suc later) (omega arith))) in
      by_place (is_place text later) others rest
    where
      kept : (others : List ℕ) → filter early others ≡ [] → length (filter early (later ∷ others)) ≤ 1
      kept others none =
          let e : length (filter early others) ≡ 0 = ap length none in
          elim (early later) as (λ v. length (if v then later ∷ filter early others else filter early others) ≤ 1) [
            | true ↦ omega (arith, e)
            | false ↦ omega (arith, e)
          ]

      by_place : (v : Bool) (others : List ℕ) → filter early others ≡ [] →
          length (filter early (if v then later ∷ others else others)) ≤ 1
      by_place true others none = kept others none
      by_place false others none = let e : length (filter early others) ≡ 0 = ap length none in omega (arith, e)

  at_most_one : (text : List ℕ) (later : ℕ) → m.0 ≤ later → length (filter early (places_from text later)) ≤ 1
  unfolding places_from
  at_most_one text later le = one_from text (suc (length text) - later) later le

  -- the starts up to the match, and the places from a later one on
  up_to_and_from : (text : List ℕ) (pos later : ℕ) → pos ≤ later →
      length (filter early (places_from text pos)) + length (places_from text later)
      ≤ length (places_from text pos) + length (filter early (places_from text later))
  up_to_and_from text pos later le =
      let b = places_before text pos later le in
      let both : length (filter early (places_from text pos))
      ≡ length (filter early b.starts) + length (filter early (places_from text later)) =
      ap (λ l. length (filter early l)) b.all ∙ ap length (filter-append early b.starts (places_from text later))
      ∙ length-append (filter early b.starts) (filter early (places_from text later)) in
      let all : length (places_from text pos) ≡ length b.starts + length (places_from text later) =
      ap length b.all ∙ length-append b.starts (places_from text later) in
      omega (arith, both, all, few_kept early b.starts)

-- ---- one search and those after it

module _ (q : Search) (not_anchored : q.anchored ≡ false) where
  starts_are : starts q ≡ places_from q.text q.pos
  starts_are = ap (λ v. if v then q.pos ∷ [] else places_from q.text q.pos) not_anchored

  begun_is : (m : Found) → match_of q ≡ Some m → begun q ≡ length (filter (early m) (places_from q.text q.pos))
  begun_is m e = ap (λ r. length (up_to r (starts q))) e ∙ ap (λ l. length (up_to (Some m) l)) starts_are

  begun_at_most : begun q ≤ places_of q
  begun_at_most = by_match (match_of q)
    where
      same : length (starts q) ≡ places_of q
      same = ap length starts_are

      by_match : (r : Option Found) → length (up_to r (starts q)) ≤ places_of q
      by_match None = omega (arith, same)
      by_match (Some m) = omega (arith, same, few_kept (early m) (starts q))

  -- the match is at a place from where the search begins
  found_from : (m : Found) → match_of q ≡ Some m → q.pos ≤ m.0
  found_from m e =
      (found_there (attempt q) {P = λ j. (q.pos ≤ j) × (is_place q.text j ≡ true)} m (places_from q.text q.pos)
      (every_place_from q.text q.pos) (sym (ap (first_of (attempt q)) starts_are) ∙ e)).0.0

  -- what this search begins, and the places that are left for the next
  begun_and_left : (m : Found) (r : Search) → ComesAfter m q r → m.0 ≤ r.pos →
      begun q + places_of r ≤ places_of q + length (filter (early m) (places_from r.text r.pos))
  begun_and_left m r after le =
      let from = found_from m after.found in
      let count = begun_is m after.found in
      subst
      (λ text. begun q + length (places_from text r.pos) ≤ places_of q + length (filter (early m) (places_from text r.pos)))
      (sym after.text)
      (omega (arith, count, up_to_and_from m q.text q.pos r.pos (omega (arith, from, le))))

  -- a match begins one start at least
  one_begun : (m : Found) → match_of q ≡ Some m → 1 ≤ begun q
  one_begun m e =
      let found = found_there (attempt q) {P = Contains (places_from q.text q.pos)} m (places_from q.text q.pos)
      (every_contains (places_from q.text q.pos)) (sym (ap (first_of (attempt q)) starts_are) ∙ e) in
      omega (arith, begun_is m e, some_kept (places_from q.text q.pos) found.0)
    where
      some_kept : (is : List ℕ) → Contains is m.0 → 1 ≤ length (filter (early m) is)
      some_kept is c = every_contained m.0 (each is) c refl
        where
          each : (js : List ℕ) → Every (λ j. j ≡ m.0 → 1 ≤ length (filter (early m) js)) js
          each [] = no_item
          each (j ∷ js) =
              item
              (λ e. subst (λ v. 1 ≤ length (if v then j ∷ filter (early m) js else filter (early m) js))
              (sym (le-leb j m.0 (omega (arith, e)))) (omega arith))
              (every_weaker
              (λ k h e. let some = h e in
              elim (early m j) as (λ v. 1 ≤ length (if v then j ∷ filter (early m) js else filter (early m) js)) [
                | true ↦ omega arith
                | false ↦ some
              ])
              (each js))

pub starts_of_successive : StartsOfSuccessiveSearches
starts_of_successive q [] not_anchored h = omega (arith, begun_at_most q not_anchored, sum_by-cons begun q [])
starts_of_successive q (r ∷ rs) not_anchored h =
    let m = h.0 in
    let after = h.1 in
    omega (
      arith,
      sum_by-cons begun q (r ∷ rs),
      begun_and_left q not_anchored m r after h.2,
      at_most_one m r.text r.pos h.2,
      starts_of_successive r rs after.not_anchored h.3,
    )

pub starts_further_on : StartsOfSearchesFurtherOn
starts_further_on q [] not_anchored h = omega (arith, begun_at_most q not_anchored, sum_by-cons begun q [])
starts_further_on q (r ∷ rs) not_anchored h =
    let m = h.0 in
    let after = h.1 in
    let lt = h.2 in
    omega (
      arith,
      sum_by-cons begun q (r ∷ rs),
      begun_and_left q not_anchored m r after (omega (arith, lt)),
      none_past m r.text r.pos lt,
      starts_further_on r rs after.not_anchored h.3,
    )

pub searches_further_on : SearchesFurtherOn
searches_further_on q [] not_anchored h = omega arith
searches_further_on q (r ∷ rs) not_anchored h =
    let m = h.0 in
    let after = h.1 in
    let lt = h.2 in
    omega (
      arith,
      one_begun q not_anchored m after.found,
      begun_and_left q not_anchored m r after (omega (arith, lt)),
      none_past m r.text r.pos lt,
      searches_further_on r rs after.not_anchored h.3,
    )
