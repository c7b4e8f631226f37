-- A list of matches goes on: what it finds ends at or past where its search began, so each search begins further on.
use Rattle.std.proofs.Common.{◌≢◌, ne_eqb, slice_index_or, inl, inr, ◌⊎◌, ◌+◌, ◌*◌, slice_range, drop, ◌≡◌, ℕ, zero, suc, ◌-◌, ◌<◌, ◌≤◌, ⊎_elim, min, max, Bool, true, false, ◌&&◌, not, List, [], ◌∷◌, ◌++◌, length, nat_le, nat_lt, Option, Some, None, IfSome, IsTrue, filter_map, slice_get, map, option_map, true≢false, eq-eqb, leb-true, ◌==◌, refl, sym, ap, ap₂, ◌∙◌, subst, arith, if◌then◌else◌}
use Rattle.regex_hir.specs.Text.{is_some_and}
use Rattle.std.proofs.lemmas.Bool.{and_parts, cases_lt, cond_both}
use Rattle.std.proofs.lemmas.List.{drop_all, length-append}
use Rattle.std.proofs.lemmas.List.Folds.{drop_split}
use Rattle.std.proofs.lemmas.Option.{none-some, same_Some}
use Rattle.std.proofs.lemmas.Bool.Decides.{nat_tests}
use Rattle.std.proofs.lemmas.Str.{len_utf8_bounds}
use Rattle.std.specs.Option.{option_map_or}
use Rattle.fancy_meaning.specs.Answer.{Search, as_numbers, starts, is_admitted, attempt, answer, search_of}
use Rattle.fancy_meaning.specs.Chars.{any_takes}
use Rattle.fancy_meaning.specs.Laws.{ArePairs}
use Rattle.fancy_meaning.specs.MatchState.{MatchState, Span, first_state}
use Rattle.fancy_meaning.specs.Moves.{past_char}
use Rattle.fancy_meaning.specs.Nodes.{group_count}
use Rattle.fancy_meaning.specs.Numbers.{usize_max}
use Rattle.fancy_meaning.specs.OpenCalls.{no_calls}
use Rattle.fancy_meaning.specs.Options.{Plan, RunOptions}
use Rattle.fancy_meaning.specs.Places.{is_place}
use Rattle.fancy_meaning.specs.Premises.{IsText, IsSpan}
use Rattle.fancy_laws.proofs.AnswerPairs.{answers_are_pairs, every_filter_map}
use Rattle.fancy_laws.proofs.AtPlaces.{StandsAtPlaces, ways_go_by_places, first_stands}
use Rattle.fancy_laws.proofs.Chosen.{every_chosen}
use Rattle.fancy_laws.proofs.Every.{Every, every_one, every_if, every_filter, every_first, every_weaker}
use Rattle.fancy_laws.proofs.Moves.{is_place_parts, past_char_tells}
use Rattle.fancy_laws.proofs.WaysOf.{every_place_from}
use Rattle.fancy_steps.specs.Outcomes.{first_pair}
use Rattle.fancy_matches.specs.Listing.{AreSpans, ComesTo, by_match, past_match, stays, group_span, Cursor, after, found_at, AreApart, IsPast, PiecesJoin, in_turn, part, pieces, all_spans, at_start, further, is_listed, left, listed, listed_one, next_pos, options_at}

-- ---- what an answer has

abbrev AtPlace : List ℕ → ℕ → Type 0
AtPlace text i = IsTrue (is_place text i)

-- a match that ends here, of a search from `pos` on
record EndsPast (text : List ℕ) (pos : ℕ) (s : MatchState) : Type 0 where
  pub stands : StandsAtPlaces text (AtPlace text) s
  pub on : pos ≤ s.place

-- numbers of a match, which lies between places in order, and ends at or past where its search began
pub record AreNumbers (text : List ℕ) (pos : ℕ) (numbers : List ℕ) : Type 0 where
  pub two : 2 ≤ length numbers
  pub whole : IsSpan text (first_pair numbers)
  pub on : pos ≤ (first_pair numbers).1

starts_on : (q : Search) → is_place q.text q.pos ≡ true → Every (λ i. (q.pos ≤ i) × (is_place q.text i ≡ true)) (starts q)
starts_on q at = every_if q.anchored (λ e. every_one (omega arith, at)) (λ e. every_place_from q.text q.pos)

min_is_place : (text : List ℕ) (i j : ℕ) → is_place text i ≡ true → is_place text j ≡ true → is_place text (min i j) ≡ true
min_is_place text i j a b = ⊎_elim
    (λ lt. let e : min i j ≡ i = omega (arith, lt) in subst (λ k. is_place text k ≡ true) (sym e) a)
    (λ ge. let e : min i j ≡ j = omega (arith, ge) in subst (λ k. is_place text k ≡ true) (sym e) b)
    (cases_lt i j)

as_numbers_sound : (text : List ℕ) (pos n : ℕ) (s : MatchState) → EndsPast text pos s → AreNumbers text pos (as_numbers n s)
unfolding as_numbers
as_numbers_sound text pos n s h = record {
  two = omega arith;
  whole = record { from = min_is_place text s.kept s.place (h.stands).kept (h.stands).place; to = (h.stands).place; in_order = omega arith };
  on = h.on;
}

pub answer_sound : (q : Search) → IsText q.text → IsTrue (is_place q.text q.pos) → IfSome (answer q) (AreNumbers q.text q.pos)
unfolding answer
answer_sound q is at =
    mapped (slice_get (filter_map (attempt q) (starts q)) 0)
    (every_first (every_filter_map {Q = EndsPast q.text q.pos} (attempt q)
    (λ start here. every_chosen q.leftmost_longest (every_filter {P = EndsPast q.text q.pos} (is_admitted q start) (λ t ends e. ends)
    (every_weaker (λ t goes. record { stands = goes.there; on = omega (arith, here.0, goes.on) })
    (ways_go_by_places q.setting is.utf8 q.tree q.tree no_calls (first_state start) (first_stands q.text start here.1)))))
    (starts_on q at)))
  where
    mapped : (o : Option MatchState) → IfSome o (EndsPast q.text q.pos) →
        IfSome (option_map (as_numbers (group_count q.tree)) o) (AreNumbers q.text q.pos)
    mapped None h = tt
    mapped (Some s) h = as_numbers_sound q.text q.pos (group_count q.tree) s h

pub numbers_found : (q : Search) (numbers : List ℕ) → IsText q.text → is_place q.text q.pos ≡ true → answer q ≡ Some numbers →
    AreNumbers q.text q.pos numbers × ArePairs q.text numbers
numbers_found q numbers is at e = (
  subst (λ o. IfSome o (AreNumbers q.text q.pos)) e (answer_sound q is at),
  subst (λ o. IfSome o (ArePairs q.text)) e (answers_are_pairs q is at),
)

-- ---- one character further

len_utf8_some : (text : List ℕ) (i j : ℕ) → past_char text (any_takes true false) i ≡ Some j → i < j
len_utf8_some text i j e =
    let p = past_char_tells text (any_takes true false) i j e in
    let one = len_utf8_bounds p.char in omega (arith, p.to, one)

pub further_on : (text : List ℕ) (i : ℕ) → i < further text i
further_on text i = go (past_char text (any_takes true false) i) (λ j e. len_utf8_some text i j e)
  where
    go : (o : Option ℕ) → ((j : ℕ) → o ≡ Some j → i < j) → i < option_map_or (λ j. j) o (suc i)
    go None k = omega arith
    go (Some j) k = k j refl

pub next_on : (text : List ℕ) (s : Cursor) (span : Span) → s.pos ≤ span.1 → s.pos < next_pos text s span
next_on text s (start, end) on =
    cond_both (nat_lt (max s.pos start) end) end (further text end) (λ i. s.pos < i)
    (λ e. grind (arith, nat_tests)) (λ e. let f = further_on text end in omega (arith, f, on))

-- ---- what is left

module _ (p : Plan) (text : List ℕ) (o : RunOptions) (is : IsText text) where
  abbrev found : Cursor → Option (List ℕ)
  found = found_at p text o

  pub found_tells : (s : Cursor) (m : List ℕ) → found s ≡ Some m →
      (is_place text s.pos ≡ true) × (answer (search_of p text (options_at o s)) ≡ Some m)
  found_tells s m =
      cond_both (is_place text s.pos) (answer (search_of p text (options_at o s))) None
      (λ x. x ≡ Some m → (is_place text s.pos ≡ true) × (answer (search_of p text (options_at o s)) ≡ Some m))
      (λ at e. (at, e)) (λ no e. cc)

  pub goes_on : (s : Cursor) (m : List ℕ) → found s ≡ Some m → s.pos < (after text s (first_pair m)).pos
  goes_on s m e =
      let t = found_tells s m e in
      next_on text s (first_pair m) ((numbers_found (search_of p text (options_at o s)) m is t.0 t.1).0).on

  listed_none : (n : ℕ) (s : Cursor) → found s ≡ None → listed p text o n s ≡ []
  unfolding listed
  listed_none zero s e = refl
  listed_none (suc n) s e = rw e refl

  listed_some : (n : ℕ) (s : Cursor) (m : List ℕ) → found s ≡ Some m →
      listed p text o (suc n) s ≡ listed_one p text o s m ++ listed p text o n (after text s (first_pair m))
  unfolding listed
  listed_some n s m e = rw e refl

  past_none : (s : Cursor) → length text < s.pos → found s ≡ None
  past_none s past =
      cond_both (is_place text s.pos) (answer (search_of p text (options_at o s))) None (λ x. x ≡ None)
      (λ at. let within = (is_place_parts text s.pos at).0 in absurd (omega (arith, past, within))) (λ no. refl)

  -- more searches than there are places find nothing more
  enough : (n k : ℕ) (s : Cursor) → suc (length text) - s.pos ≤ n → suc (length text) - s.pos ≤ k →
      listed p text o n s ≡ listed p text o k s
  enough zero k s a b =
      let none = past_none s (omega (arith, a)) in listed_none zero s none ∙ sym (listed_none k s none)
  enough (suc n) zero s a b =
      let none = past_none s (omega (arith, b)) in listed_none (suc n) s none ∙ sym (listed_none zero s none)
  enough (suc n) (suc k) s a b =
      go (found s) refl
      (λ m e. let on = goes_on s m e in
      enough n k (after text s (first_pair m)) (omega (arith, a, on)) (omega (arith, b, on)))
    where
      go : (x : Option (List ℕ)) → found s ≡ x →
          ((m : List ℕ) → found s ≡ Some m →
          listed p text o n (after text s (first_pair m)) ≡ listed p text o k (after text s (first_pair m))) →
          listed p text o (suc n) s ≡ listed p text o (suc k) s
      go None e same = listed_none (suc n) s e ∙ sym (listed_none (suc k) s e)
      go (Some m) e same =
          listed_some n s m e ∙ ap (λ rest. listed_one p text o s m ++ rest) (same m e) ∙ sym (listed_some k s m e)

  pub left_none : (s : Cursor) → found s ≡ None → left p text o s ≡ []
  left_none s e = listed_none (suc (length text) - s.pos) s e

  pub left_some : (s : Cursor) (m : List ℕ) → found s ≡ Some m →
      left p text o s ≡ listed_one p text o s m ++ left p text o (after text s (first_pair m))
  left_some s m e =
      let next = after text s (first_pair m) in
      let on = goes_on s m e in
      let within = (is_place_parts text s.pos (found_tells s m e).0).0 in
      let n = length text - s.pos in
      let fuel : suc (length text) - s.pos ≡ suc n = omega (arith, within) in
      ap (λ k. listed p text o k s) fuel ∙ listed_some n s m e
      ∙ ap (λ rest. listed_one p text o s m ++ rest) (enough n (suc (length text) - next.pos) next (omega (arith, on)) (omega arith))

  -- ---- the next search settles what is left

  found_answer : (s : Cursor) → is_place text s.pos ≡ true → found s ≡ answer (search_of p text (options_at o s))
  found_answer s at = ap (λ b. if b then answer (search_of p text (options_at o s)) else None) at

  pub ended_at : (s : Cursor) → is_place text s.pos ≡ false → left p text o s ≡ []
  ended_at s is_so =
      left_none s (ap (λ b. if b then answer (search_of p text (options_at o s)) else None) is_so)

  pub no_place_ends : (s : Cursor) → length text < s.pos → left p text o s ≡ []
  no_place_ends s past = left_none s (past_none s past)

  module _ (s : Cursor) (at : is_place text s.pos ≡ true) where
    pub finds_none : None ≡ answer (search_of p text (options_at o s)) → left p text o s ≡ []
    finds_none e = left_none s (found_answer s at ∙ sym e)

    module _ (m : List ℕ) (e : Some m ≡ answer (search_of p text (options_at o s))) where
      pub is_found : found s ≡ Some m
      is_found = found_answer s at ∙ sym e

      pub finds_sound : AreNumbers text s.pos m × ArePairs text m
      finds_sound = numbers_found (search_of p text (options_at o s)) m is at (sym e)

      pub finds_further : s.pos < (after text s (first_pair m)).pos
      finds_further = goes_on s m is_found

      pub finds_listed : is_listed s (first_pair m) ≡ true → left p text o s ≡ m ∷ left p text o (after text s (first_pair m))
      finds_listed is_so =
          left_some s m is_found
          ∙ ap (λ b. (if b then m ∷ [] else []) ++ left p text o (after text s (first_pair m))) is_so

      pub finds_passed : is_listed s (first_pair m) ≡ false → left p text o s ≡ left p text o (after text s (first_pair m))
      finds_passed is_so =
          left_some s m is_found
          ∙ ap (λ b. (if b then m ∷ [] else []) ++ left p text o (after text s (first_pair m))) is_so

-- ---- a list comes from one cursor to another

module _ (p : Plan) (text : List ℕ) (o : RunOptions) where
  pub comes_more : {s t u : Cursor} {ms ns : List (List ℕ)} → ComesTo p text o s ms t → ComesTo p text o t ns u → ComesTo p text o s (ms ++ ns) u
  comes_more stays d = d
  comes_more (by_match s m found listed c) d = by_match s m found listed (comes_more c d)
  comes_more (past_match s m found listed c) d = past_match s m found listed (comes_more c d)

  module _ (is : IsText text) where
    -- its matches are the first of those that were left
    pub comes_left : {s t : Cursor} {ms : List (List ℕ)} → ComesTo p text o s ms t → left p text o s ≡ ms ++ left p text o t
    comes_left stays = refl
    comes_left (by_match s m found listed c) =
        left_some p text o is s m found
        ∙ ap (λ b. (if b then m ∷ [] else []) ++ left p text o (after text s (first_pair m))) listed
        ∙ ap (λ rest. m ∷ rest) (comes_left c)
    comes_left (past_match s m found listed c) =
        left_some p text o is s m found
        ∙ ap (λ b. (if b then m ∷ [] else []) ++ left p text o (after text s (first_pair m))) listed
        ∙ comes_left c

    -- it stands further on for each of them
    pub comes_on : {s t : Cursor} {ms : List (List ℕ)} → ComesTo p text o s ms t → length ms + s.pos ≤ t.pos
    comes_on {s} stays = omega arith
    comes_on (by_match s m found listed c) = let on = goes_on p text o is s m found in let rest = comes_on c in omega (arith, on, rest)
    comes_on (past_match s m found listed c) = let on = goes_on p text o is s m found in let rest = comes_on c in omega (arith, on, rest)

-- ---- a list has no more matches than places

one_most : (b : Bool) (m : List ℕ) → length (if b then m ∷ [] else []) ≤ 1
one_most true m = omega arith
one_most false m = omega arith

module _ (p : Plan) (text : List ℕ) (o : RunOptions) (is : IsText text) where
  listed_most : (n : ℕ) (s : Cursor) → length (listed p text o n s) ≤ n
  unfolding listed
  listed_most zero s = omega arith
  listed_most (suc n) s = go (found_at p text o s) refl (λ m. listed_most n (after text s (first_pair m)))
    where
      go : (x : Option (List ℕ)) → found_at p text o s ≡ x → ((m : List ℕ) → length (listed p text o n (after text s (first_pair m))) ≤ n) →
          length (listed p text o (suc n) s) ≤ suc n
      go None e rest = let none = ap (λ (xs : List (List ℕ)). length xs) (listed_none p text o is (suc n) s e) in omega (arith, none)
      go (Some m) e rest =
          let some = ap (λ (xs : List (List ℕ)). length xs) (listed_some p text o is n s m e) in
          let one = one_most (is_listed s (first_pair m)) m in
          let more = rest m in
          omega (arith, some, one, more, length-append (listed_one p text o s m) (listed p text o n (after text s (first_pair m))))

  pub all_most : length (left p text o at_start) ≤ suc (length text)
  all_most = let most = listed_most (suc (length text) - 0) at_start in omega (arith, most)

-- ---- the matches of a list lie apart

pub ends_before_next : (text : List ℕ) (s : Cursor) (span : Span) → span.1 ≤ next_pos text s span
ends_before_next text s (start, end) =
    cond_both (nat_lt (max s.pos start) end) end (further text end) (λ i. end ≤ i)
    (λ e. omega arith) (λ e. let f = further_on text end in omega (arith, f))

-- the last match of the list ended at or before the place where the next search begins
IsOrderly : Cursor → Type 0
IsOrderly s = (last : ℕ) → s.last ≡ Some last → last ≤ s.pos

-- a match of the list lies past the last one
listed_past : (s : Cursor) (span : Span) → IsOrderly s → span.0 ≤ span.1 → is_listed s span ≡ true → IsPast s.last span
unfolding IsOrderly
listed_past s (start, end) orderly in_order is_so = go s.last orderly is_so
  where
    go : (last : Option ℕ) → ((l : ℕ) → last ≡ Some l → l ≤ s.pos) →
        (nat_le s.pos start && not (start == end && is_some_and last (λ l. l == end))) ≡ true → IsPast last (start, end)
    go None before test = tt
    go (Some l) before test =
        let parts = and_parts (nat_le s.pos start) _ test in
        let begins = leb-true s.pos start parts.0 in
        let ended = before l refl in (
          omega (arith, ended, begins),
          ⊎_elim (λ lt. lt)
              (λ ge. let same : start ≡ end = omega (arith, ge, ended, begins, in_order) in
              let again : l ≡ end = omega (arith, ge, ended, begins, in_order) in
              absurd (true≢false (sym parts.1 ∙ ap₂ (λ a b. not (a && b)) (eq-eqb start end same) (eq-eqb l end again))))
              (cases_lt l end),
        )

module _ (p : Plan) (text : List ℕ) (o : RunOptions) (is : IsText text) where
  found_sound : (s : Cursor) (m : List ℕ) → found_at p text o s ≡ Some m → AreNumbers text s.pos m
  found_sound s m e =
      let t = found_tells p text o is s m e in
      (numbers_found (search_of p text (options_at o s)) m is t.0 t.1).0

  orderly_after : (s : Cursor) (m : List ℕ) → found_at p text o s ≡ Some m → IsOrderly s → IsOrderly (after text s (first_pair m))
  unfolding IsOrderly
  orderly_after s m e orderly last =
      let on = goes_on p text o is s m e in
      cond_both (is_listed s (first_pair m)) (Some (first_pair m).1) s.last
      (λ x. x ≡ Some last → last ≤ next_pos text s (first_pair m))
      (λ is_so e. let same = same_Some (first_pair m).1 last e in
      let past = ends_before_next text s (first_pair m) in omega (arith, same, past))
      (λ is_so e. let before = orderly last e in omega (arith, before, on))

  listed_apart : (n : ℕ) (s : Cursor) → IsOrderly s → AreApart text s.last (map first_pair (listed p text o n s))
  unfolding listed
  listed_apart zero s orderly = tt
  listed_apart (suc n) s orderly =
      go (found_at p text o s) refl (λ m e. listed_apart n (after text s (first_pair m)) (orderly_after s m e orderly))
    where
      one : (m : List ℕ) (b : Bool) → is_listed s (first_pair m) ≡ b → found_at p text o s ≡ Some m →
          AreApart text (if b then Some (first_pair m).1 else s.last) (map first_pair (listed p text o n (after text s (first_pair m)))) →
          AreApart text s.last (map first_pair ((if b then m ∷ [] else []) ++ listed p text o n (after text s (first_pair m))))
      one m true e here rest =
          let whole = (found_sound s m here).whole in
          (listed_past s (first_pair m) orderly whole.in_order e, (whole, rest))
      one m false e here rest = rest

      go : (x : Option (List ℕ)) → found_at p text o s ≡ x →
          ((m : List ℕ) → found_at p text o s ≡ Some m →
          AreApart text (after text s (first_pair m)).last (map first_pair (listed p text o n (after text s (first_pair m))))) →
          AreApart text s.last (map first_pair (listed p text o (suc n) s))
      go None e rest = subst (λ xs. AreApart text s.last (map first_pair xs)) (sym (listed_none p text o is (suc n) s e)) tt
      go (Some m) e rest =
          subst (λ xs. AreApart text s.last (map first_pair xs)) (sym (listed_some p text o is n s m e))
          (one m (is_listed s (first_pair m)) refl e (rest m e))

  pub matches_apart : AreApart text None (all_spans p text o)
  unfolding IsOrderly
  matches_apart = listed_apart (suc (length text) - 0) at_start (λ last e. absurd (none-some last e))

-- ---- pieces and matches in turn are the text

abbrev from_last : Option ℕ → ℕ
from_last None = 0
from_last (Some last) = last

zero_least : (n : ℕ) → 0 ≤ n
zero_least n = omega arith

past_from : (last : Option ℕ) (start end : ℕ) → IsPast last (start, end) → from_last last ≤ start
past_from None start end past = zero_least start
past_from (Some l) start end past = past.0

joins_from : (text : List ℕ) (last : Option ℕ) (spans : List Span) → from_last last ≤ length text → AreApart text last spans →
    in_turn (pieces text (from_last last) spans) (map (part text) spans) ≡ drop (from_last last) text
joins_from text last [] within apart =
    ap (λ rest. slice_range text (from_last last) (length text) ++ rest) (sym (drop_all (length text) text (omega arith)))
    ∙ sym (drop_split text (from_last last) (length text) within)
joins_from text last ((start, end) ∷ spans) within (past, (span, apart)) =
    let to = (is_place_parts text end span.to).0 in
    let in_order = span.in_order in
    let begins = past_from last start end past in
    ap (λ rest. slice_range text (from_last last) start ++ (slice_range text start end ++ rest)) (joins_from text (Some end) spans to apart)
    ∙ ap (λ rest. slice_range text (from_last last) start ++ rest) (sym (drop_split text start end in_order))
    ∙ sym (drop_split text (from_last last) start begins)

pub spans_join : (text : List ℕ) (spans : List Span) → AreApart text None spans → PiecesJoin text spans
spans_join text spans apart = joins_from text None spans (zero_least (length text)) apart

pub pieces_join : (p : Plan) (text : List ℕ) (o : RunOptions) → IsText text → PiecesJoin text (all_spans p text o)
pieces_join p text o is = spans_join text (all_spans p text o) (matches_apart p text o is)

-- ---- groups

two_further : (i j : ℕ) (rest : List ℕ) (g d : ℕ) →
    (slice_index_or (i ∷ j ∷ rest) (2 * suc g) d ≡ slice_index_or rest (2 * g) d)
    × (slice_index_or (i ∷ j ∷ rest) (2 * suc g + 1) d ≡ slice_index_or rest (2 * g + 1) d)
two_further i j rest g d =
    let one : 2 * suc g ≡ suc (suc (2 * g)) = omega arith in
    let two : 2 * suc g + 1 ≡ suc (suc (2 * g + 1)) = omega arith in (
      ap (λ k. slice_index_or (i ∷ j ∷ rest) k d) one,
      ap (λ k. slice_index_or (i ∷ j ∷ rest) k d) two,
    )

first_is_span : (text : List ℕ) (i j : ℕ) (rest : List ℕ) → ((i ≡ usize_max) × (j ≡ usize_max)) ⊎ IsSpan text (i, j) →
    (span : Span) → (if i == usize_max then None else Some (i, j)) ≡ Some span → IsSpan text span
first_is_span text i j rest (inl unset) span e =
    absurd (none-some span (sym (ap (λ b. if b then None else Some (i, j)) (eq-eqb i usize_max unset.0)) ∙ e))
first_is_span text i j rest (inr is) span e =
    cond_both (i == usize_max) None (Some (i, j)) (λ x. x ≡ Some span → IsSpan text span)
    (λ is_so e. absurd (none-some span e)) (λ is_so e. subst (IsSpan text) (same_Some (i, j) span e) is) e

pub spans_of_pairs : (text numbers : List ℕ) → ArePairs text numbers → AreSpans text numbers
spans_of_pairs text [] pairs g span e = first_is_span text usize_max usize_max [] (inl (refl, refl)) span e
spans_of_pairs text (i ∷ []) pairs g span e = absurd pairs
spans_of_pairs text (i ∷ j ∷ rest) (first, pairs) zero span e = first_is_span text i j rest first span e
spans_of_pairs text (i ∷ j ∷ rest) (first, pairs) (suc g) span e =
    let further = two_further i j rest g usize_max in
    spans_of_pairs text rest pairs g span
    (sym (ap₂ (λ start end. if start == usize_max then None else Some (start, end)) further.0 further.1) ∙ e)

pub group_is : (numbers : List ℕ) (g start end : ℕ) → slice_index_or numbers (2 * g) usize_max ≡ start →
    slice_index_or numbers (2 * g + 1) usize_max ≡ end → start ≢ usize_max → group_span numbers g ≡ Some (start, end)
group_is numbers g start end first second set =
    ap₂ (λ i j. if i == usize_max then None else Some (i, j)) first second
    ∙ ap (λ b. if b then None else Some (start, end)) (ne_eqb start usize_max set)
