-- The match of a search: its answer, where it begins, and from where it is the same.
use Rattle.std.proofs.Common.{◌≡◌, ◌⊎◌, inl, inr, ℕ, ◌≤◌, min, Bool, true, false, if◌then◌else◌, List, [], ◌∷◌, ◌++◌, length, filter, filter_map, flat_map, Option, Some, None, IfSome, option_map, refl, sym, ap, ◌∙◌, subst, arith}
use Rattle.std.specs.Prelude.{slice_get}
use Rattle.std.specs.List.{cons_option}
use Rattle.std.proofs.Math.Path.{fun_ext}
use Rattle.std.proofs.lemmas.Bool.{true≢false}
use Rattle.std.proofs.lemmas.Option.{none-some, same_Some}
use Rattle.fancy_meaning.specs.Marks.{is_continue}
use Rattle.fancy_meaning.specs.Nodes.{nodes, group_count, is_keep_out}
use Rattle.fancy_meaning.specs.OpenCalls.{no_calls}
use Rattle.fancy_meaning.specs.Places.{range_from, places_from}
use Rattle.fancy_meaning.specs.MatchState.{MatchState, Ways, first_state}
use Rattle.fancy_meaning.specs.Answer.{Search, span_numbers, as_numbers, chosen, starts, is_admitted, ways_from, attempt, answer}
use Rattle.fancy_laws.proofs.Every.{Every, every_one, every_weaker, every_filter}
use Rattle.fancy_laws.proofs.Chosen.{every_chosen}
use Rattle.fancy_laws.proofs.Forward.{ways_go_forward}
use Rattle.fancy_laws.proofs.Moves.{is_place_parts}
use Rattle.fancy_laws.proofs.WaysOf.{every_place_from}
use Rattle.fancy_starts.specs.Matches.{has_continue, has_keep_out, Found, match_of, begun_at}
use Rattle.fancy_starts.proofs.Firsts.{first_of, none_after, found_after, found_there}
use Rattle.fancy_starts.proofs.LaterStarts.{Before, places_before}
use Rattle.fancy_starts.proofs.Placeless.{none_passes, placeless}
use Rattle.fancy_starts.proofs.KeptStarts.{ways_keep_start}

-- ---- the answer

-- a match as numbers
abbrev pub numbers_of : Search → Option Found → Option (List ℕ)
numbers_of q = option_map (λ (m : Found). as_numbers (group_count q.tree) m.1)

pub answer_is : (q : Search) → answer q ≡ numbers_of q (match_of q)
unfolding answer
answer_is q = first_is (starts q)
  where
    by_first : (o : Option MatchState) (i : ℕ) (is : List ℕ) →
        option_map (as_numbers (group_count q.tree)) (slice_get (filter_map (attempt q) is) 0)
        ≡ numbers_of q (first_of (attempt q) is) →
        option_map (as_numbers (group_count q.tree)) (slice_get (cons_option o (filter_map (attempt q) is)) 0)
        ≡ numbers_of q (slice_get (cons_option (option_map (λ s. (i, s)) o) (filter_map (λ j. option_map (λ s. (j, s)) (attempt q j)) is)) 0)
    by_first None i is rest = rest
    by_first (Some s) i is rest = refl

    first_is : (is : List ℕ) →
        option_map (as_numbers (group_count q.tree)) (slice_get (filter_map (attempt q) is) 0)
        ≡ numbers_of q (first_of (attempt q) is)
    first_is [] = refl
    first_is (i ∷ is) = by_first (attempt q i) i is (first_is is)

pub no_match : (q : Search) → answer q ≡ None → match_of q ≡ None
no_match q e = go (match_of q) (sym (answer_is q) ∙ e)
  where
    go : (o : Option Found) → numbers_of q o ≡ None → o ≡ None
    go None h = refl
    go (Some m) h = absurd (none-some _ (sym h))

-- ---- where it begins

-- the state of an attempt is one of the ways
of_ways : {P : MatchState → Type 0} (q : Search) (start : ℕ) (s : MatchState) → attempt q start ≡ Some s →
    Every P (ways_from q start) → P s
of_ways {P} q start s e h =
    subst (λ o. IfSome o P) e
    (every_chosen {P = P} q.leftmost_longest (every_filter {Q = P} (is_admitted q start) (λ u p admitted. p) h))

-- the starts that are tried are within the text
starts_within : (q : Search) → (q.pos ≤ length q.text) ⊎ (q.anchored ≡ false) → Every (λ i. i ≤ length q.text) (starts q)
starts_within q h = go q.anchored h
  where
    go : (v : Bool) → (q.pos ≤ length q.text) ⊎ (v ≡ false) →
        Every (λ i. i ≤ length q.text) (if v then q.pos ∷ [] else places_from q.text q.pos)
    go true (inl le) = every_one le
    go true (inr e) = absurd (true≢false e)
    go false k = every_weaker (λ j at. (is_place_parts q.text j at.1).0) (every_place_from q.text q.pos)

-- without `\K` the match starts where it was tried, and does not end before
pub record Begins (m : Found) : Type 0 where
  pub kept : (m.1).kept ≡ m.0
  pub forward : m.0 ≤ (m.1).place

pub begins : (q : Search) (m : Found) → (q.pos ≤ length q.text) ⊎ (q.anchored ≡ false) → has_keep_out q.tree ≡ false →
    match_of q ≡ Some m → Begins m
begins q m h free e =
    let found = found_there (attempt q) {P = λ i. i ≤ length q.text} m (starts q) (starts_within q h) e in
    record {
      kept =
          of_ways {P = λ t. t.kept ≡ m.0} q m.0 m.1 found.1
          (ways_keep_start q.setting q.tree (none_passes is_keep_out (nodes q.tree) free) no_calls (first_state m.0));
      forward =
          of_ways {P = λ t. m.0 ≤ t.place} q m.0 m.1 found.1
          (every_weaker (λ t step. step.on) (ways_go_forward q.setting q.tree q.tree no_calls (first_state m.0) found.0));
    }

-- the numbers from the first two on
pub numbers_begin : (n : ℕ) (s : MatchState) →
    as_numbers n s ≡ min s.kept s.place ∷ s.place ∷ flat_map (λ g. span_numbers (s.captures g)) (range_from 1 n)
unfolding as_numbers
numbers_begin n s = refl

pub numbers_from_start : (n : ℕ) (m : Found) → Begins m →
    as_numbers n m.1 ≡ m.0 ∷ (m.1).place ∷ flat_map (λ g. span_numbers ((m.1).captures g)) (range_from 1 n)
numbers_from_start n m b =
    let kept = b.kept in
    let forward = b.forward in
    let start : min (m.1).kept (m.1).place ≡ m.0 = omega (arith, kept, forward) in
    numbers_begin n m.1 ∙ ap (λ i. i ∷ (m.1).place ∷ flat_map (λ g. span_numbers ((m.1).captures g)) (range_from 1 n)) start

pub answer_begins : (q : Search) (m : Found) → (q.pos ≤ length q.text) ⊎ (q.anchored ≡ false) → has_keep_out q.tree ≡ false →
    match_of q ≡ Some m → (groups : List ℕ) × (answer q ≡ Some (m.0 ∷ (m.1).place ∷ groups))
answer_begins q m h free e = (
  flat_map (λ g. span_numbers ((m.1).captures g)) (range_from 1 (group_count q.tree)),
  answer_is q ∙ ap (numbers_of q) e ∙ ap Some (numbers_from_start (group_count q.tree) m (begins q m h free e)),
)

-- where there is an answer there is a match, tried from where the answer begins
pub match_of_answer : (q : Search) → (q.pos ≤ length q.text) ⊎ (q.anchored ≡ false) → has_keep_out q.tree ≡ false →
    (from : ℕ) (numbers : List ℕ) → answer q ≡ Some (from ∷ numbers) → (m : Found) × (match_of q ≡ Some m) × (m.0 ≡ from)
match_of_answer q h free from numbers e = go (match_of q) refl
  where
    first_number : List ℕ → ℕ
    first_number [] = 0
    first_number (i ∷ is) = i

    go : (o : Option Found) → match_of q ≡ o → (m : Found) × (match_of q ≡ Some m) × (m.0 ≡ from)
    go None is = absurd (none-some (from ∷ numbers) (sym (ap (numbers_of q) is) ∙ sym (answer_is q) ∙ e))
    go (Some m) is =
        let known = answer_begins q m h free is in
        (m, is, ap first_number (same_Some _ _ (sym known.1 ∙ e)))

-- ---- a later start

module _ (q : Search) (pos : ℕ) (continued : Bool) (not_anchored : q.anchored ≡ false) (free : has_continue q.tree ≡ false)
    (le : q.pos ≤ pos) where
  abbrev pub later : Search
  later = begun_at pos continued q

  pub same_attempts : attempt later ≡ attempt q
  same_attempts =
      fun_ext (λ start.
      ap (λ (w : Ways). chosen q.leftmost_longest (filter (is_admitted q start) (w (first_state start))))
      (sym (placeless q.setting pos continued q.tree (none_passes is_continue (nodes q.tree) free) no_calls)))

  before : Before q.text q.pos pos
  before = places_before q.text q.pos pos le

  -- both by the places from the later one on
  all_starts : match_of q ≡ first_of (attempt q) (before.starts ++ places_from q.text pos)
  all_starts =
      ap (λ v. first_of (attempt q) (if v then q.pos ∷ [] else places_from q.text q.pos)) not_anchored
      ∙ ap (first_of (attempt q)) before.all

  later_starts : match_of later ≡ first_of (attempt q) (places_from q.text pos)
  later_starts =
      ap (λ v. first_of (attempt later) (if v then pos ∷ [] else places_from q.text pos)) not_anchored
      ∙ ap (λ f. first_of f (places_from q.text pos)) same_attempts

  pub none_later : match_of q ≡ None → match_of later ≡ None
  none_later e = later_starts ∙ none_after (attempt q) before.starts (places_from q.text pos) (sym all_starts ∙ e)

  pub same_later : (m : Found) → pos ≤ m.0 → match_of q ≡ Some m → match_of later ≡ Some m
  same_later m at e =
      later_starts
      ∙ found_after (attempt q) pos m at before.starts (places_from q.text pos) before.are_before (sym all_starts ∙ e)

  pub no_answer_later : answer q ≡ None → answer later ≡ None
  no_answer_later e = answer_is later ∙ ap (numbers_of later) (none_later (no_match q e))

  pub same_answer_later : has_keep_out q.tree ≡ false → (from : ℕ) (numbers : List ℕ) → pos ≤ from →
      answer q ≡ Some (from ∷ numbers) → answer later ≡ Some (from ∷ numbers)
  same_answer_later keeps from numbers at e =
      let known = match_of_answer q (inr not_anchored) keeps from numbers e in
      let start = known.2 in
      answer_is later ∙ ap (numbers_of later) (same_later known.0 (omega (arith, start, at)) known.1)
      ∙ sym (ap (numbers_of q) known.1) ∙ sym (answer_is q) ∙ e
