-- The kit's leftmost match is the answer.
use Rattle.std.proofs.Common.{◌≡◌, ℕ, zero, suc, ◌+◌, ◌*◌, ◌-◌, ◌<◌, ◌≤◌, Bool, true, false, ◌&&◌, not, if◌then◌else◌, List, [], ◌∷◌, length, filter, Option, Some, None, ◌==◌, slice_get, option_map, refl, sym, ap, ap₂, subst, ◌∙◌, arith, eq-eqb, ne_eqb, le-leb, inl, inr}
use Rattle.std.specs.Prelude.{filter_map}
use Rattle.std.specs.List.{cons_option}
use Rattle.std.proofs.lemmas.Bool.{cases_eq, cond-false, cond-true, false≢true}
use Rattle.std.specs.Option.{option_or}
use Rattle.regex_hir.specs.Text.{is_boundary}
use Rattle.regex_hir.specs.Re.{Re, Rest, Trace, accept}
use Rattle.regex_hir.specs.Re as kit
use Rattle.regex_hir.specs.Find.{Match, find_str, first_from, last_write, slot_of}
use Rattle.regex_hir.proofs.OptionLemmas.{option_or-None, option_or_assoc}
use Rattle.fancy_meaning.specs.Tree.{Tree, NoLook}
use Rattle.fancy_meaning.specs.Nodes.{group_count}
use Rattle.fancy_meaning.specs.OpenCalls.{no_calls, free_calls}
use Rattle.fancy_meaning.specs.Places.{is_place, places_from, range_from}
use Rattle.fancy_meaning.specs.MatchState.{MatchState, first_state, put}
use Rattle.fancy_meaning.specs.Numbering.{numbered}
use Rattle.fancy_meaning.specs.Ways.{called, ways, ways_with}
use Rattle.fancy_meaning.specs.Answer.{Search, answer, as_numbers, attempt, chosen, is_admitted, is_empty_at_end, span_numbers, ways_from}
use Rattle.fancy_laws.proofs.Every.{Every, no_item, item}
use Rattle.fancy_laws.proofs.EndlessLoops.{flat_map_same}
use Rattle.fancy_agreement.specs.First.{first_some}
use Rattle.fancy_agreement.specs.Captures.{Agree, IsPlain, MatchIsAnswer, Slots, TakesFirstCaptures, after_writes, numbers_of, pair}

-- ---- firsts

first_of_map : {A B : Type 0} (f : A → Option B) (xs : List A) → slice_get (filter_map f xs) 0 ≡ first_some f xs
first_of_map {B} f [] = refl
first_of_map {B} f (x ∷ xs) = go (f x) (first_of_map f xs)
  where
    go : (o : Option B) → slice_get (filter_map f xs) 0 ≡ first_some f xs →
        slice_get (cons_option o (filter_map f xs)) 0 ≡ option_or o (first_some f xs)
    go None h = h
    go (Some y) h = refl

first_of_filter : {A B : Type 0} (test : A → Bool) (f : A → Option B) (xs : List A) →
    first_some f (filter test xs) ≡ first_some (λ x. if test x then f x else None) xs
first_of_filter test f [] = refl
first_of_filter test f (x ∷ xs) = go (test x) (first_of_filter test f xs)
  where
    go : (b : Bool) → first_some f (filter test xs) ≡ first_some (λ x. if test x then f x else None) xs →
        first_some f (if b then x ∷ filter test xs else filter test xs)
        ≡ option_or (if b then f x else None) (first_some (λ x. if test x then f x else None) xs)
    go true h = ap (option_or (f x)) h
    go false h = h

first_itself : {A : Type 0} (xs : List A) → slice_get xs 0 ≡ first_some Some xs
first_itself [] = refl
first_itself (x ∷ xs) = refl

map_or : {A B : Type 0} (f : A → B) (o p : Option A) → option_map f (option_or o p) ≡ option_or (option_map f o) (option_map f p)
map_or f None p = refl
map_or f (Some x) p = refl

map_first : {A B C : Type 0} (f : B → C) (g : A → Option B) (xs : List A) →
    option_map f (first_some g xs) ≡ first_some (λ x. option_map f (g x)) xs
map_first f g [] = refl
map_first f g (x ∷ xs) = map_or f (g x) (first_some g xs) ∙ ap (option_or (option_map f (g x))) (map_first f g xs)

all_kept : {A : Type 0} (test : A → Bool) (xs : List A) → ((x : A) → test x ≡ true) → filter test xs ≡ xs
all_kept test [] h = refl
all_kept test (x ∷ xs) h =
    ap (λ b. if b then x ∷ filter test xs else filter test xs) (h x) ∙ ap (λ l. x ∷ l) (all_kept test xs h)

-- ---- slots

written_last : (ws : List (ℕ × ℕ)) (slots : Slots) (i : ℕ) → after_writes ws slots i ≡ option_or (last_write ws i) (slots i)
written_last [] slots i = refl
written_last (w ∷ ws) slots i =
    written_last ws (put w.0 (Some w.1) slots) i
    ∙ ap (option_or (last_write ws i)) (elim (cases_eq i w.0) [
      | inl same ↦ cond-true (i == w.0) (Some w.1) (slots i) (eq-eqb i w.0 same)
          ∙ ap (λ b. option_or (if b then Some w.1 else None) (slots i)) (sym (eq-eqb w.0 i (sym same)))
      | inr ne ↦ cond-false (i == w.0) (Some w.1) (slots i) (ne_eqb i w.0 ne)
          ∙ ap (λ b. option_or (if b then Some w.1 else None) (slots i)) (sym (ne_eqb w.0 i (λ e. ne (sym e))))
    ])
    ∙ sym (option_or_assoc (last_write ws i) (if w.0 == i then Some w.1 else None) (slots i))

-- a group's slot holds what was last written to it
held : (m : Match) (i : ℕ) → 2 ≤ i → after_writes m.trace.writes (λ _. None) i ≡ slot_of m i
unfolding slot_of
held m i le =
    let last = last_write m.trace.writes i in
    written_last m.trace.writes (λ _. None) i
    ∙ sym (ap₂ (λ a b. option_or (option_or last a) b)
    (cond-false (1 == i) (Some m.trace.end) None (ne_eqb 1 i (omega arith)))
    (cond-false (0 == i) (Some m.start) None (ne_eqb 0 i (omega arith)))
    ∙ option_or-None (option_or last None))

every_from : (P : ℕ → Type 0) (n i : ℕ) → 1 ≤ i → ((g : ℕ) → 1 ≤ g → P g) → Every P (range_from i n)
every_from P zero i le h = no_item
every_from P (suc n) i le h = item (h i le) (every_from P n (suc i) (omega arith) h)

-- ---- one start

module _ (q : Search) (re : Re) (plain : IsPlain q)
    (law : TakesFirstCaptures q.text (λ g. false) re (ways q.setting q.tree q.tree no_calls)) where
  at_start : (i : ℕ) → i ≤ length q.text → Agree i (λ _. None) (kit.attempt q.text re accept i) (first_some Some (ways_from q i))
  at_start i within =
      law i (first_state i) (λ _. None) accept Some within
      (record { kept = refl; on = omega arith; spans = λ g shut. refl })
      (λ t new one holds same. record {
        start = omega (arith, holds.kept, holds.on);
        end = refl;
        spans = λ g. holds.spans g refl;
      })

  first_admitted : (i : ℕ) → attempt q i ≡ first_some Some (ways_from q i)
  first_admitted i =
      ap (λ b. chosen b (filter (is_admitted q i) (ways_from q i))) plain.first_way
      ∙ ap (λ l. slice_get l 0) (all_kept (is_admitted q i) (ways_from q i) admitted)
      ∙ first_itself (ways_from q i)
    where
      admitted : (s : MatchState) → is_admitted q i s ≡ true
      admitted s = ap₂ (λ a b. not (a && s.place == i) && not (b && is_empty_at_end q i s && not s.text_end)) plain.empty_too plain.any_end

  same_numbers : (i : ℕ) (r : Option Trace) (o : Option MatchState) → Agree i (λ _. None) r o →
      option_map (as_numbers (group_count q.tree)) o
      ≡ option_map (numbers_of (group_count q.tree)) (option_map (λ t. record { start = i; trace = t }) r)
  unfolding as_numbers
  same_numbers i None None h = refl
  same_numbers i None (Some u) h = absurd h
  same_numbers i (Some t) None h = absurd h
  same_numbers i (Some t) (Some u) h =
      let m : Match = record { start = i; trace = t } in
      ap Some (ap₂ (λ a l. a ∷ l) h.start (ap₂ (λ b l. b ∷ l) (sym h.end)
      (flat_map_same (λ g. span_numbers (u.captures g)) (λ g. span_numbers (pair (slot_of m (2 * g)) (slot_of m (2 * g + 1))))
      (every_from (λ g. span_numbers (u.captures g) ≡ span_numbers (pair (slot_of m (2 * g)) (slot_of m (2 * g + 1))))
      (group_count q.tree) 1 (omega arith)
      (λ g le. ap span_numbers (h.spans g ∙ ap₂ pair (held m (2 * g) (omega (arith, le))) (held m (2 * g + 1) (omega (arith, le)))))))))

  abbrev at_boundary : Rest
  at_boundary j = if is_boundary q.text j then kit.attempt q.text re accept j else None

  here : (i : ℕ) → i ≤ length q.text →
      option_map (as_numbers (group_count q.tree)) (if is_place q.text i then attempt q i else None)
      ≡ option_map (numbers_of (group_count q.tree)) (option_map (λ t. record { start = i; trace = t }) (at_boundary i))
  here i within =
      ap (λ b. option_map (as_numbers (group_count q.tree)) (if b && is_boundary q.text i then attempt q i else None))
      (le-leb i (length q.text) within)
      ∙ go (is_boundary q.text i)
    where
      go : (b : Bool) → option_map (as_numbers (group_count q.tree)) (if b then attempt q i else None)
          ≡ option_map (numbers_of (group_count q.tree))
          (option_map (λ t. record { start = i; trace = t }) (if b then kit.attempt q.text re accept i else None))
      go false = refl
      go true =
          ap (option_map (as_numbers (group_count q.tree))) (first_admitted i)
          ∙ same_numbers i (kit.attempt q.text re accept i) (first_some Some (ways_from q i)) (at_start i within)

  each_start : (n i : ℕ) → ((j : ℕ) → i ≤ j → j < i + n → j ≤ length q.text) →
      first_some (λ j. option_map (as_numbers (group_count q.tree)) (if is_place q.text j then attempt q j else None)) (range_from i n)
      ≡ option_map (numbers_of (group_count q.tree)) (first_from at_boundary n i)
  unfolding first_from
  each_start zero i within = refl
  each_start (suc n) i within =
      let next : suc i ≡ i + 1 = omega arith in
      ap₂ option_or (here i (within i (omega arith) (omega arith)))
      (each_start n (suc i) (λ j le lt. within j (omega (arith, le)) (omega (arith, lt)))
      ∙ ap (λ j. option_map (numbers_of (group_count q.tree)) (first_from at_boundary n j)) next)
      ∙ sym (map_or (numbers_of (group_count q.tree)) (option_map (λ t. record { start = i; trace = t }) (at_boundary i))
      (first_from at_boundary n (i + 1)))

  search_is_match : answer q ≡ option_map (numbers_of (group_count q.tree)) (find_str re q.text q.pos)
  unfolding answer find_str places_from
  search_is_match =
      let numbers = as_numbers (group_count q.tree) in
      let count = suc (length q.text) - q.pos in
      let same : suc (length q.text) - q.pos ≡ length q.text + 1 - q.pos = omega arith in
      ap (λ b. option_map numbers (slice_get (filter_map (attempt q) (if b then q.pos ∷ [] else places_from q.text q.pos)) 0))
      plain.any_start
      ∙ ap (option_map numbers)
      (first_of_map (attempt q) (places_from q.text q.pos) ∙ first_of_filter (is_place q.text) (attempt q) (range_from q.pos count))
      ∙ map_first numbers (λ j. if is_place q.text j then attempt q j else None) (range_from q.pos count)
      ∙ each_start count q.pos (λ j le lt. omega (arith, le, lt))
      ∙ ap (λ n. option_map (numbers_of (group_count q.tree)) (first_from at_boundary n q.pos)) same

pub match_is_answer : MatchIsAnswer
unfolding numbered
match_is_answer q e re plain is captures =
    search_is_match q re plain
    (subst
    (λ (t : Tree). TakesFirstCaptures q.text (λ g. false) re
    (ways_with q.setting (called q.setting q.tree (free_calls q.tree no_calls) no_calls) t))
    (sym is)
    (captures.at NoLook q.setting (called q.setting q.tree (free_calls q.tree no_calls) no_calls) (λ g. false) refl
    (λ g o. absurd (false≢true o))))
