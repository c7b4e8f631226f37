-- Starts from which no way is admitted can be passed over, and an attempt from one start tells of it.
use Rattle.std.proofs.Common.{◌≡◌, ℕ, suc, ◌-◌, ◌<◌, ◌≤◌, Bool, true, false, if◌then◌else◌, List, [], ◌∷◌, ◌++◌, length, filter, filter_map, Option, Some, None, option_map, refl, sym, ap, subst, ◌∙◌, arith}
use Rattle.std.specs.Prelude.{MatchOption, slice_get}
use Rattle.std.specs.List.{cons_option}
use Rattle.std.proofs.lemmas.Bool.{cond-true}
use Rattle.fancy_meaning.specs.Answer.{Search, answer, as_numbers, attempt}
use Rattle.fancy_meaning.specs.MatchState.{MatchState}
use Rattle.fancy_meaning.specs.Nodes.{group_count}
use Rattle.fancy_meaning.specs.Places.{is_place, places_from, range_from}
use Rattle.fancy_laws.proofs.Every.{Every, no_item, item, every_append_parts, every_both}
use Rattle.fancy_laws.proofs.Moves.{is_place_parts}
use Rattle.fancy_laws.proofs.WaysOf.{every_place_from}
use Rattle.fancy_starts.specs.Matches.{anchored_at, begun_at, has_continue}
use Rattle.fancy_starts.proofs.LaterStarts.{Before, places_before}
use Rattle.fancy_starts.proofs.Matches.{same_attempts}

skip_none : (f : ℕ → Option MatchState) {is : List ℕ} (js : List ℕ) → Every (λ i. f i ≡ None) is → filter_map f (is ++ js) ≡ filter_map f js
skip_none f js no_item = refl
skip_none f js (item {x = i} {xs = is} none rest) = ap (λ o. cons_option o (filter_map f (is ++ js))) none ∙ skip_none f js rest

record Here (text : List ℕ) (pos : ℕ) : Type 0 where
  rest : List ℕ
  all : places_from text pos ≡ pos ∷ rest

here : (text : List ℕ) (pos : ℕ) → is_place text pos ≡ true → Here text pos
unfolding places_from
here text pos at =
    let within = (is_place_parts text pos at).0 in
    let more : suc (length text) - pos ≡ suc (length text - pos) = omega (arith, within) in
    let rest : List ℕ = filter (is_place text) (range_from (suc pos) (length text - pos)) in
    record {
      rest = rest;
      all = ap (λ m. filter (is_place text) (range_from pos m)) more ∙ cond-true (is_place text pos) (pos ∷ rest) rest at;
    }

module _ (q : Search) (pos : ℕ) (continued : Bool) (not_anchored : q.anchored ≡ false) (free : has_continue q.tree ≡ false) where
  abbrev later : Search
  later = begun_at pos continued q

  abbrev first_numbers : List MatchState → Option (List ℕ)
  first_numbers ss = option_map (as_numbers (group_count q.tree)) (slice_get ss 0)

  of_all : answer later ≡ first_numbers (filter_map (attempt later) (places_from q.text pos))
  unfolding answer
  of_all = ap (λ v. first_numbers (filter_map (attempt later) (if v then pos ∷ [] else places_from q.text pos))) not_anchored

  pub same_from_next : (le : q.pos ≤ pos) →
      ((start : ℕ) → q.pos ≤ start → start < pos → is_place q.text start ≡ true → attempt q start ≡ None) → answer q ≡ answer later
  unfolding answer
  same_from_next le none =
      let b : Before q.text q.pos pos = places_before q.text q.pos pos le in
      let each : Every (λ i. (q.pos ≤ i) × (is_place q.text i ≡ true)) b.starts =
      (every_append_parts b.starts (places_from q.text pos) (subst (Every (λ i. (q.pos ≤ i) × (is_place q.text i ≡ true))) b.all (every_place_from q.text q.pos))).0 in
      let nothing : Every (λ i. attempt q i ≡ None) b.starts = every_both (λ i at lt. none i at.0 lt at.1) each b.are_before in
      ap (λ v. first_numbers (filter_map (attempt q) (if v then q.pos ∷ [] else places_from q.text q.pos))) not_anchored
      ∙ ap first_numbers
      (ap (filter_map (attempt q)) b.all ∙ skip_none (attempt q) (places_from q.text pos) nothing
      ∙ ap (λ f. filter_map f (places_from q.text pos)) (sym (same_attempts q pos continued not_anchored free le)))
      ∙ sym of_all

  alone : answer (anchored_at pos continued q) ≡ first_numbers (cons_option (attempt later pos) [])
  unfolding answer
  alone = refl

  pub of_one_start : (le : q.pos ≤ pos) → is_place q.text pos ≡ true →
      MatchOption (answer (anchored_at pos continued q)) (attempt q pos ≡ None) (λ numbers. answer later ≡ Some numbers)
  of_one_start le at = subst (λ o. MatchOption o (attempt q pos ≡ None) (λ numbers. answer later ≡ Some numbers)) (sym alone) (go (attempt later pos) refl)
    where
      go : (o : Option MatchState) → attempt later pos ≡ o →
          MatchOption (first_numbers (cons_option o [])) (attempt q pos ≡ None) (λ numbers. answer later ≡ Some numbers)
      go None e = sym (ap (λ f. f pos) (same_attempts q pos continued not_anchored free le)) ∙ e
      go (Some s) e =
          let there = here q.text pos at in
          of_all ∙ ap (λ l. first_numbers (filter_map (attempt later) l)) there.all
          ∙ ap (λ o. first_numbers (cons_option o (filter_map (attempt later) there.rest))) e
