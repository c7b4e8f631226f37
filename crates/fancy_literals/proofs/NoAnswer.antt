-- A search that has no way from any start has no answer.
use Rattle.std.proofs.Common.{◌≡◌, ◌≤◌, ℕ, Bool, true, false, List, [], ◌∷◌, filter, filter_map, if◌then◌else◌, Option, None, option_map, slice_get, refl, ap, ◌∙◌, arith}
use Rattle.std.specs.List.{cons_option}
use Rattle.fancy_meaning.specs.Answer.{Search, answer, as_numbers, attempt, chosen, is_admitted, ways_from}
use Rattle.fancy_meaning.specs.Nodes.{group_count}
use Rattle.fancy_meaning.specs.Places.{places_from}
use Rattle.fancy_laws.proofs.Every.{Every, no_item, item, every_one, every_weaker}
use Rattle.fancy_laws.proofs.WaysOf.{every_place_from}

none_found : {A B : Type 0} (f : A → Option B) {xs : List A} → Every (λ x. f x ≡ None) xs → filter_map f xs ≡ []
none_found f no_item = refl
none_found f (item {x} {xs} h hs) = ap (λ o. cons_option o (filter_map f xs)) h ∙ none_found f hs

module _ (q : Search) (none_from : (start : ℕ) → q.pos ≤ start → ways_from q start ≡ []) where
  nothing_chosen : (longest : Bool) → chosen longest [] ≡ None
  nothing_chosen true = refl
  nothing_chosen false = refl

  no_attempt : (start : ℕ) → q.pos ≤ start → attempt q start ≡ None
  no_attempt start behind =
      ap (λ l. chosen q.leftmost_longest (filter (is_admitted q start) l)) (none_from start behind) ∙ nothing_chosen q.leftmost_longest

  no_attempts : (anchored : Bool) → Every (λ start. attempt q start ≡ None) (if anchored then q.pos ∷ [] else places_from q.text q.pos)
  no_attempts true = every_one (no_attempt q.pos (omega arith))
  no_attempts false = every_weaker (λ start is. no_attempt start is.0) (every_place_from q.text q.pos)

  pub no_answer : answer q ≡ None
  unfolding answer
  no_answer =
      ap (λ l. option_map (as_numbers (group_count q.tree)) (slice_get l 0)) (none_found (attempt q) (no_attempts q.anchored))
