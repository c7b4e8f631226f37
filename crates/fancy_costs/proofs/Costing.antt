-- Each search of a list begins at or past the start where the match before was tried.
use Rattle.std.proofs.Common.{◌≡◌, ◌&&◌, ◌||◌, ◌==◌, IsFalse, inl, ℕ, zero, suc, ◌+◌, ◌*◌, ◌-◌, ◌<◌, ◌≤◌, max, min, Bool, true, false, List, [], ◌∷◌, ◌++◌, length, filter, filter_map, nat_le, nat_lt, sum_by, Option, Some, None, IfSome, refl, sym, ap, ap₂, ◌∙◌, subst, arith, length-append, if◌then◌else◌}
use Rattle.std.specs.List.{cons_option}
use Rattle.std.specs.Option.{option_map_or}
use Rattle.std.proofs.lemmas.Bool.{cond_both, or_parts}
use Rattle.std.proofs.lemmas.Bool.Decides.{nat_tests}
use Rattle.std.proofs.lemmas.List.Sums.{sum_by-cons}
use Rattle.std.proofs.lemmas.Option.{none-some, same_Some}
use Rattle.std.proofs.lemmas.Str.{IsCharBoundary-start}
use Rattle.fancy_meaning.specs.Answer.{Search, answer, attempt, is_admitted, starts, ways_from}
use Rattle.fancy_meaning.specs.Hard.{is_hard, is_root_hard}
use Rattle.fancy_meaning.specs.MatchState.{MatchState, first_state}
use Rattle.fancy_meaning.specs.Nodes.{group_count}
use Rattle.fancy_meaning.specs.OpenCalls.{no_calls, free_calls}
use Rattle.fancy_meaning.specs.Options.{Plan, RunOptions}
use Rattle.fancy_meaning.specs.Places.{is_place, places_from, range_from}
use Rattle.fancy_meaning.specs.Premises.{IsText}
use Rattle.fancy_meaning.specs.Sizes.{size}
use Rattle.fancy_meaning.specs.Ways.{called}
use Rattle.fancy_laws.proofs.Characters.{place_of_cut}
use Rattle.fancy_laws.proofs.Chosen.{every_chosen}
use Rattle.fancy_laws.proofs.Every.{Every, item, no_item, every_filter, every_if, every_one, every_weaker}
use Rattle.fancy_laws.proofs.Forward.{ways_go_forward}
use Rattle.fancy_laws.proofs.Moves.{is_place_parts}
use Rattle.fancy_laws.proofs.WaysOf.{every_place_from}
use Rattle.fancy_steps.specs.Outcomes.{first_pair}
use Rattle.fancy_starts.specs.Matches.{Found, has_keep_out, match_of}
use Rattle.fancy_starts.proofs.Firsts.{found_there}
use Rattle.fancy_starts.proofs.LaterStarts.{places_before}
use Rattle.fancy_starts.proofs.Matches.{answer_is, begins, numbers_begin, numbers_of}
use Rattle.fancy_bounds.specs.StartsBegun.{begun, up_to}
use Rattle.fancy_bounds.specs.Successive.{AreFurtherOn, AreSuccessive}
use Rattle.fancy_bounds.proofs.Successive.{starts_further_on, starts_of_successive}
use Rattle.fancy_matches.specs.Listing.{Cursor, after, all_matches, at_start, found_at, further, left, listed_one, next_pos}
use Rattle.fancy_matches.proofs.Lists.{ended_at, ends_before_next, found_tells, further_on, goes_on, left_none, left_some, no_place_ends}
use Rattle.fancy_costs.specs.Costs.{all_searches, enough, listed_among, places_of, search_at, searches}
use Rattle.fancy_costs.proofs.EasyStarts.{easy_keeps}

-- ---- where the match of a search was tried, and where it ends

ends_at : (q : Search) (numbers : List ℕ) (m : Found) → Some numbers ≡ numbers_of q (Some m) → (first_pair numbers).1 ≡ (m.1).place
ends_at q numbers m e = ap (λ l. (first_pair l).1) (same_Some _ _ e ∙ numbers_begin (group_count q.tree) m.1)

-- the match of an answer, and where that ends
record HasMatch (q : Search) (numbers : List ℕ) : Type 0 where
  pub found : Found
  pub is : match_of q ≡ Some found
  pub all : Some numbers ≡ numbers_of q (Some found)

has_match : (q : Search) (numbers : List ℕ) → answer q ≡ Some numbers → HasMatch q numbers
has_match q numbers e = go (match_of q) refl (sym e ∙ answer_is q)
  where
    go : (o : Option Found) → match_of q ≡ o → Some numbers ≡ numbers_of q (match_of q) → HasMatch q numbers
    go None is h = absurd (none-some _ (sym (h ∙ ap (numbers_of q) is)))
    go (Some m) is h = record { found = m; is = is; all = h ∙ ap (numbers_of q) is }

of_ways : {P : MatchState → Type 0} (q : Search) (start : ℕ) (s : MatchState) → attempt q start ≡ Some s →
    Every P (ways_from q start) → P s
of_ways {P} q start s e h =
    subst (λ o. IfSome o P) e
    (every_chosen {P = P} q.leftmost_longest (every_filter {Q = P} (is_admitted q start) (λ u p admitted. p) h))

starts_within : (q : Search) → is_place q.text q.pos ≡ true → Every (λ i. i ≤ length q.text) (starts q)
starts_within q at =
    every_if q.anchored (λ e. every_one (is_place_parts q.text q.pos at).0)
    (λ e. every_weaker (λ j h. (is_place_parts q.text j h.1).0) (every_place_from q.text q.pos))

-- it does not end before it was tried
tried_before : (q : Search) (m : Found) → is_place q.text q.pos ≡ true → match_of q ≡ Some m → m.0 ≤ (m.1).place
tried_before q m at e =
    let found = found_there (attempt q) {P = λ i. i ≤ length q.text} m (starts q) (starts_within q at) e in
    of_ways {P = λ t. m.0 ≤ t.place} q m.0 m.1 found.1
    (every_weaker (λ t step. step.on) (ways_go_forward q.setting q.tree q.tree no_calls (first_state m.0) found.0))

-- ---- where the next search begins

past_start : (text : List ℕ) (s : Cursor) (start end : ℕ) → start ≤ end → start < next_pos text s (start, end)
past_start text s start end le =
    cond_both (nat_lt (max s.pos start) end) end (further text end) (λ i. start < i)
    (λ e. grind (arith, nat_tests)) (λ e. let f = further_on text end in omega (arith, f, le))

module _ (p : Plan) (text : List ℕ) (o : RunOptions) (is : IsText text) where
  -- those after the search from here
  abbrev rest : ℕ → Cursor → List Search
  rest n s = option_map_or (λ m. searches p text o n (after text s (first_pair m))) (found_at p text o s) []

  searches_at : (n : ℕ) (s : Cursor) → is_place text s.pos ≡ true → searches p text o (suc n) s ≡ search_at p text o s ∷ rest n s
  unfolding searches
  searches_at n s at = ap (λ b. if b then search_at p text o s ∷ rest n s else []) at

  searches_past : (n : ℕ) (s : Cursor) → is_place text s.pos ≡ false → searches p text o (suc n) s ≡ []
  unfolding searches
  searches_past n s past = ap (λ b. if b then search_at p text o s ∷ rest n s else []) past

  no_searches : (s : Cursor) → searches p text o zero s ≡ []
  unfolding searches
  no_searches s = refl

  rest_none : (n : ℕ) (s : Cursor) → found_at p text o s ≡ None → rest n s ≡ []
  rest_none n s e = ap (λ x. option_map_or (λ m. searches p text o n (after text s (first_pair m))) x []) e

  rest_some : (n : ℕ) (s : Cursor) (m : List ℕ) → found_at p text o s ≡ Some m → rest n s ≡ searches p text o n (after text s (first_pair m))
  rest_some n s m e = ap (λ x. option_map_or (λ m. searches p text o n (after text s (first_pair m))) x []) e

  -- the match that the search from here found
  match_at : (s : Cursor) (m : List ℕ) → found_at p text o s ≡ Some m → HasMatch (search_at p text o s) m
  match_at s m e = has_match (search_at p text o s) m (found_tells p text o is s m e).1

  -- the next search begins at or past the start where it was tried
  next_begins : (s : Cursor) (m : List ℕ) (e : found_at p text o s ≡ Some m) →
      ((match_at s m e).found).0 ≤ (after text s (first_pair m)).pos
  next_begins s m e =
      let h = match_at s m e in
      let q = search_at p text o s in
      let tried = tried_before q h.found (found_tells p text o is s m e).0 h.is in
      let end = ends_at q m h.found h.all in
      let next = ends_before_next text s (first_pair m) in
      omega (arith, tried, end, next)

  -- the match of each search begins where it was tried
  abbrev KeepsStarts : Type 0
  KeepsStarts = (s : Cursor) (m : Found) → is_place text s.pos ≡ true → match_of (search_at p text o s) ≡ Some m → (m.1).kept ≡ m.0

  without_keep_out : has_keep_out (p.analysis).tree ≡ false → KeepsStarts
  without_keep_out free s m at e = (begins (search_at p text o s) m (inl (is_place_parts text s.pos at).0) free e).kept

  easy_tree : is_hard p.analysis (p.analysis).tree ≡ false → KeepsStarts
  easy_tree easy s m at e =
      let q = search_at p text o s in
      let found = found_there (attempt q) {P = λ i. i ≤ length q.text} m (starts q) (starts_within q at) e in
      of_ways {P = λ t. t.kept ≡ m.0} q m.0 m.1 found.1
      (easy_keeps p.analysis q.setting (called q.setting q.tree (free_calls q.tree no_calls) no_calls) q.tree easy (first_state m.0))

  -- then the next search begins further on
  next_further : KeepsStarts → (s : Cursor) (m : List ℕ) (e : found_at p text o s ≡ Some m) →
      ((match_at s m e).found).0 < (after text s (first_pair m)).pos
  next_further keeps s m e =
      let h = match_at s m e in
      let q = search_at p text o s in
      let at = (found_tells p text o is s m e).0 in
      let kept = keeps s h.found at h.is in
      let forward = tried_before q h.found at h.is in
      let end = ends_at q m h.found h.all in
      let begin : (first_pair m).0 ≡ min ((h.found).1).kept ((h.found).1).place =
      ap (λ l. (first_pair l).0) (same_Some _ _ h.all ∙ numbers_begin (group_count q.tree) (h.found).1) in
      let past = past_start text s (first_pair m).0 (first_pair m).1 (omega (arith, kept, forward, begin, end)) in
      omega (arith, past, kept, forward, begin)

  -- what holds of a search and those after it, by what holds of two in a row
  module _ (Chain : Search → List Search → Type 0) (last : (q : Search) → Chain q [])
      (two : (s : Cursor) (m : List ℕ) → found_at p text o s ≡ Some m → (rs : List Search) →
      Chain (search_at p text o (after text s (first_pair m))) rs →
      Chain (search_at p text o s) (search_at p text o (after text s (first_pair m)) ∷ rs)) where
    after_none : (n : ℕ) (s : Cursor) → found_at p text o s ≡ None → Chain (search_at p text o s) (rest n s)
    after_none n s e = subst (Chain (search_at p text o s)) (sym (rest_none n s e)) (last (search_at p text o s))

    after_some : (n : ℕ) (s : Cursor) (m : List ℕ) → found_at p text o s ≡ Some m →
        Chain (search_at p text o (after text s (first_pair m))) (rest n (after text s (first_pair m))) →
        Chain (search_at p text o s) (rest (suc n) s)
    after_some n s m e more =
        let t = after text s (first_pair m) in
        subst (Chain (search_at p text o s)) (sym (rest_some (suc n) s m e))
        (by_place t (two s m e (rest n t) more) (is_place text t.pos) refl)
      where
        by_place : (t : Cursor) → Chain (search_at p text o s) (search_at p text o t ∷ rest n t) → (v : Bool) → is_place text t.pos ≡ v →
            Chain (search_at p text o s) (searches p text o (suc n) t)
        by_place t next true at = subst (Chain (search_at p text o s)) (sym (searches_at n t at)) next
        by_place t next false past = subst (Chain (search_at p text o s)) (sym (searches_past n t past)) (last (search_at p text o s))

    chained : (n : ℕ) (s : Cursor) → Chain (search_at p text o s) (rest n s)
    chained zero s = go (found_at p text o s) refl
      where
        go : (x : Option (List ℕ)) → found_at p text o s ≡ x → Chain (search_at p text o s) (rest zero s)
        go None e = after_none zero s e
        go (Some m) e =
            subst (Chain (search_at p text o s)) (sym (rest_some zero s m e ∙ no_searches (after text s (first_pair m))))
            (last (search_at p text o s))
    chained (suc n) s = go (found_at p text o s) refl (λ t. chained n t)
      where
        go : (x : Option (List ℕ)) → found_at p text o s ≡ x → ((t : Cursor) → Chain (search_at p text o t) (rest n t)) →
            Chain (search_at p text o s) (rest (suc n) s)
        go None e more = after_none (suc n) s e
        go (Some m) e more = after_some n s m e (more (after text s (first_pair m)))

  -- ---- what the searches begin together

  first_place : is_place text 0 ≡ true
  first_place = place_of_cut text 0 (IsCharBoundary-start text is.utf8)

  all_are : all_searches p text o ≡ search_at p text o at_start ∷ rest (length text) at_start
  all_are = searches_at (length text) at_start first_place

-- ---- as many searches as places

place_counts : (text : List ℕ) (i : ℕ) → is_place text i ≡ true → length (places_from text i) ≡ suc (length (places_from text (suc i)))
unfolding places_from
place_counts text i at =
    let within = (is_place_parts text i at).0 in
    let one : suc (length text) - i ≡ suc (suc (length text) - suc i) = omega (arith, within) in
    let others : List ℕ = filter (is_place text) (range_from (suc i) (suc (length text) - suc i)) in
    ap (λ n. length (filter (is_place text) (range_from i n))) one
    ∙ ap (λ v. length (if v then i ∷ others else others)) at

later_fewer : (text : List ℕ) (i j : ℕ) → i ≤ j → length (places_from text j) ≤ length (places_from text i)
later_fewer text i j le =
    let b = places_before text i j le in
    let all = ap length b.all ∙ length-append b.starts (places_from text j) in
    omega (arith, all)

module _ (p : Plan) (text : List ℕ) (o : RunOptions) (is : IsText text) where
  few_searches : (n : ℕ) (s : Cursor) → length (searches p text o n s) ≤ length (places_from text s.pos)
  few_searches zero s = let none = ap length (no_searches p text o is s) in omega (arith, none)
  few_searches (suc n) s = by_place (is_place text s.pos) refl (λ t. few_searches n t)
    where
      count_rest : is_place text s.pos ≡ true → (x : Option (List ℕ)) → found_at p text o s ≡ x →
          ((t : Cursor) → length (searches p text o n t) ≤ length (places_from text t.pos)) →
          length (rest p text o is n s) ≤ length (places_from text (suc s.pos))
      count_rest at None e more = let none = ap length (rest_none p text o is n s e) in omega (arith, none)
      count_rest at (Some m) e more =
          let t = after text s (first_pair m) in
          let some = ap length (rest_some p text o is n s m e) in
          let few = more t in
          let on = goes_on p text o is s m e in
          let fewer = later_fewer text (suc s.pos) t.pos (omega (arith, on)) in
          omega (arith, some, few, fewer)

      by_place : (v : Bool) → is_place text s.pos ≡ v →
          ((t : Cursor) → length (searches p text o n t) ≤ length (places_from text t.pos)) →
          length (searches p text o (suc n) s) ≤ length (places_from text s.pos)
      by_place false past more = let none = ap length (searches_past p text o is n s past) in omega (arith, none)
      by_place true at more =
          let some = ap length (searches_at p text o is n s at) in
          let here = place_counts text s.pos at in
          let few = count_rest at (found_at p text o s) refl more in
          omega (arith, some, here, few)

  pub count_of_all : length (all_searches p text o) ≤ places_of text
  count_of_all = few_searches (suc (length text)) at_start

  -- what holds of the search from each cursor holds of all of them
  each_search : {P : Search → Type 0} → ((s : Cursor) → P (search_at p text o s)) → (n : ℕ) (s : Cursor) →
      Every P (searches p text o n s)
  each_search {P} each zero s = subst (Every P) (sym (no_searches p text o is s)) no_item
  each_search {P} each (suc n) s = by_place (is_place text s.pos) refl (λ t. each_search {P = P} each n t)
    where
      by_found : (x : Option (List ℕ)) → found_at p text o s ≡ x → ((t : Cursor) → Every P (searches p text o n t)) →
          Every P (rest p text o is n s)
      by_found None e more = subst (Every P) (sym (rest_none p text o is n s e)) no_item
      by_found (Some m) e more = subst (Every P) (sym (rest_some p text o is n s m e)) (more (after text s (first_pair m)))

      by_place : (v : Bool) → is_place text s.pos ≡ v → ((t : Cursor) → Every P (searches p text o n t)) →
          Every P (searches p text o (suc n) s)
      by_place false past more = subst (Every P) (sym (searches_past p text o is n s past)) no_item
      by_place true at more =
          subst (Every P) (sym (searches_at p text o is n s at)) (item (each s) (by_found (found_at p text o s) refl more))

-- ---- what they find

module _ (p : Plan) (text : List ℕ) (o : RunOptions) (is : IsText text) where
  -- what is listed of an answer and of those after it
  abbrev listed_by : Cursor → Option (List ℕ) → List Search → List (List ℕ)
  listed_by s x qs = listed_among p text o s (cons_option x (filter_map answer qs))

  finds_left : (n : ℕ) (s : Cursor) → suc (length text) - s.pos ≤ n →
      left p text o s ≡ listed_among p text o s (filter_map answer (searches p text o n s))
  finds_left zero s le =
      no_place_ends p text o is s (omega (arith, le))
      ∙ sym (ap (λ qs. listed_among p text o s (filter_map answer qs)) (no_searches p text o is s))
  finds_left (suc n) s le = by_place (is_place text s.pos) refl (λ t few. finds_left n t few)
    where
      by_found : is_place text s.pos ≡ true → (x : Option (List ℕ)) → found_at p text o s ≡ x →
          ((t : Cursor) → suc (length text) - t.pos ≤ n →
          left p text o t ≡ listed_among p text o t (filter_map answer (searches p text o n t))) →
          left p text o s ≡ listed_by s (answer (search_at p text o s)) (rest p text o is n s)
      by_found at None e more =
          let here : answer (search_at p text o s) ≡ None =
          sym (ap (λ b. if b then answer (search_at p text o s) else None) at) ∙ e in
          left_none p text o is s e ∙ sym (ap₂ (listed_by s) here (rest_none p text o is n s e))
      by_found at (Some m) e more =
          let t = after text s (first_pair m) in
          let on = goes_on p text o is s m e in
          left_some p text o is s m e
          ∙ ap (λ ms. listed_one p text o s m ++ ms) (more t (omega (arith, le, on)))
          ∙ sym (ap₂ (listed_by s) (found_tells p text o is s m e).1 (rest_some p text o is n s m e))

      by_place : (v : Bool) → is_place text s.pos ≡ v →
          ((t : Cursor) → suc (length text) - t.pos ≤ n →
          left p text o t ≡ listed_among p text o t (filter_map answer (searches p text o n t))) →
          left p text o s ≡ listed_among p text o s (filter_map answer (searches p text o (suc n) s))
      by_place false past more =
          ended_at p text o is s past
          ∙ sym (ap (λ qs. listed_among p text o s (filter_map answer qs)) (searches_past p text o is n s past))
      by_place true at more =
          by_found at (found_at p text o s) refl more
          ∙ sym (ap (λ qs. listed_among p text o s (filter_map answer qs)) (searches_at p text o is n s at))

  pub finds_all : all_matches p text o ≡ listed_among p text o at_start (filter_map answer (all_searches p text o))
  finds_all = finds_left (suc (length text)) at_start (omega arith)

-- ---- starts

one_kept : (v : Bool) (i : ℕ) → length (if v then i ∷ [] else []) ≤ 1
one_kept true i = omega arith
one_kept false i = omega arith

-- an anchored search begins one start
anchored_begins : (q : Search) → q.anchored ≡ true → begun q ≤ 1
anchored_begins q anchored = by_match (match_of q)
  where
    one : starts q ≡ q.pos ∷ []
    one = ap (λ v. if v then q.pos ∷ [] else places_from q.text q.pos) anchored

    by_match : (r : Option Found) → length (up_to r (starts q)) ≤ 1
    by_match None = let same = ap length one in omega (arith, same)
    by_match (Some m) =
        let same = ap (λ l. length (up_to (Some m) l)) one in
        let few = one_kept (nat_le q.pos m.0) q.pos in
        omega (arith, same, few)

one_for_each : (qs : List Search) → Every (λ q. begun q ≤ 1) qs → sum_by begun qs ≤ length qs
one_for_each [] no_item = omega arith
one_for_each (q ∷ qs) (item one h) =
    let rest = one_for_each qs h in
    let sums = sum_by-cons begun q qs in
    omega (arith, one, rest, sums)

module _ (p : Plan) (text : List ℕ) (o : RunOptions) (is : IsText text) where
  -- how many starts all begin, where each search tries its first alone
  few_anchored : (p.anchored || o.anchored) ≡ true → sum_by begun (all_searches p text o) ≤ length (all_searches p text o)
  few_anchored anchored =
      one_for_each (all_searches p text o)
      (each_search p text o is {P = λ q. begun q ≤ 1} (λ s. anchored_begins (search_at p text o s) anchored) (suc (length text)) at_start)

  module _ (all : (p.anchored || o.anchored) ≡ false) where
    successive : (n : ℕ) (s : Cursor) → AreSuccessive (search_at p text o s) (rest p text o is n s)
    successive =
        chained p text o is AreSuccessive (λ q. tt)
        (λ s m e rs more.
        let h = match_at p text o is s m e in
        (h.found, record { found = h.is; text = refl; not_anchored = all }, next_begins p text o is s m e, more))

    further_each : KeepsStarts p text o is → (n : ℕ) (s : Cursor) → AreFurtherOn (search_at p text o s) (rest p text o is n s)
    further_each keeps =
        chained p text o is AreFurtherOn (λ q. tt)
        (λ s m e rs more.
        let h = match_at p text o is s m e in
        (h.found, record { found = h.is; text = refl; not_anchored = all }, next_further p text o is keeps s m e, more))

    starts_of_many : sum_by begun (all_searches p text o) + 1 ≤ places_of text + length (all_searches p text o)
    starts_of_many =
        let most =
        starts_of_successive (search_at p text o at_start) (rest p text o is (length text) at_start) all (successive (length text) at_start) in
        let sum = ap (sum_by begun) (all_are p text o is) in
        let count = ap length (all_are p text o is) in
        omega (arith, most, sum, count)

    starts_of_kept : KeepsStarts p text o is → sum_by begun (all_searches p text o) ≤ places_of text
    starts_of_kept keeps =
        let most =
        starts_further_on (search_at p text o at_start) (rest p text o is (length text) at_start) all (further_each keeps (length text) at_start) in
        let sum = ap (sum_by begun) (all_are p text o is) in
        omega (arith, most, sum)

  pub starts_of_all : sum_by begun (all_searches p text o) + 1 ≤ places_of text + length (all_searches p text o)
  starts_of_all = by_anchored (p.anchored || o.anchored) refl
    where
      by_anchored : (v : Bool) → (p.anchored || o.anchored) ≡ v →
          sum_by begun (all_searches p text o) + 1 ≤ places_of text + length (all_searches p text o)
      by_anchored false all = starts_of_many all
      by_anchored true anchored =
          let few = few_anchored anchored in
          let one = place_counts text 0 (first_place p text o is) in
          omega (arith, few, one)

  starts_where_kept : KeepsStarts p text o is → sum_by begun (all_searches p text o) ≤ places_of text
  starts_where_kept keeps = by_anchored (p.anchored || o.anchored) refl
    where
      by_anchored : (v : Bool) → (p.anchored || o.anchored) ≡ v → sum_by begun (all_searches p text o) ≤ places_of text
      by_anchored false all = starts_of_kept all keeps
      by_anchored true anchored =
          let few = few_anchored anchored in
          let count = count_of_all p text o is in
          omega (arith, few, count)

  pub starts_without : has_keep_out (p.analysis).tree ≡ false → sum_by begun (all_searches p text o) ≤ places_of text
  starts_without free = starts_where_kept (without_keep_out p text o is free)

  starts_of_easy : IsFalse (is_root_hard p.analysis) → sum_by begun (all_searches p text o) ≤ places_of text
  starts_of_easy easy =
      starts_where_kept
      (easy_tree p text o is
      (or_parts (is_hard p.analysis (p.analysis).tree) ((p.analysis).end_text && (size (p.analysis).tree (p.analysis).tree).least == 0) easy).0)

-- ---- instructions

abbrev one_if : Bool → ℕ
one_if v = if v then 1 else 0

one_more_for : (v : Bool) (n : ℕ) → one_if v + (if v then n else 0) ≡ (if v then suc n else 0)
one_more_for true n = omega arith
one_more_for false n = omega arith

enough_is : (longest : Bool) (qs : List Search) → Every (λ q. q.leftmost_longest ≡ longest) qs →
    sum_by enough qs ≡ 8 * sum_by begun qs + (if longest then length qs else 0)
enough_is true [] no_item = omega arith
enough_is false [] no_item = omega arith
enough_is longest (q ∷ qs) (item same h) =
    let others = enough_is longest qs h in
    let one = ap one_if same in
    let more = one_more_for longest (length qs) in
    let sums = sum_by-cons enough q qs in
    let begins = sum_by-cons begun q qs in
    omega (arith, others, one, more, sums, begins)

module _ (p : Plan) (text : List ℕ) (o : RunOptions) (is : IsText text) where
  enough_of_all : sum_by enough (all_searches p text o)
      ≡ 8 * sum_by begun (all_searches p text o) + (if o.leftmost_longest then length (all_searches p text o) else 0)
  enough_of_all =
      enough_is o.leftmost_longest (all_searches p text o)
      (each_search p text o is {P = λ q. q.leftmost_longest ≡ o.leftmost_longest} (λ s. refl) (suc (length text)) at_start)

  pub instructions_of_all : sum_by enough (all_searches p text o) + 8
      ≤ 8 * (places_of text + length (all_searches p text o)) + (if o.leftmost_longest then length (all_searches p text o) else 0)
  instructions_of_all =
      let begins = starts_of_all p text o is in
      let most = enough_of_all in
      omega (arith, begins, most)

  pub instructions_of_easy : IsFalse (is_root_hard p.analysis) → sum_by enough (all_searches p text o)
      ≤ 8 * places_of text + (if o.leftmost_longest then length (all_searches p text o) else 0)
  instructions_of_easy easy =
      let begins = starts_of_easy p text o is easy in
      let most = enough_of_all in
      omega (arith, begins, most)
