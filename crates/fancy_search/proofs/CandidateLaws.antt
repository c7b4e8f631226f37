-- What attempts from candidates tell of a search.
use Rattle.std.proofs.Common.{◌≡◌, ⊎_elim, ℕ, suc, ◌+◌, ◌<◌, ◌≤◌, Bool, true, false, ◌||◌, ◌&&◌, not, List, [], ◌∷◌, drop, length, filter, filter_map, Option, None, Some, option_map, slice_get, if◌then◌else◌, refl, sym, ap, ap₂, subst, ◌∙◌, arith}
use Rattle.std.specs.List.{cons_option}
use Rattle.std.specs.Prelude.{MatchOption}
use Rattle.std.proofs.lemmas.Bool.{and_from, and_parts, cases_eq, cases_lt, false≢true}
use Rattle.memchr.specs.Find.{Nowhere}
use Rattle.fancy_meaning.specs.Answer.{Search, answer, as_numbers, attempt, chosen, is_admitted, search_of, ways_from}
use Rattle.fancy_meaning.specs.Fits.{run_fits}
use Rattle.fancy_meaning.specs.Machine as machine
use Rattle.fancy_meaning.specs.Nodes.{group_count}
use Rattle.fancy_meaning.specs.Options as plain
use Rattle.fancy_meaning.specs.Places.{is_place, places_from}
use Rattle.fancy_meaning.specs.Premises.{Input, plan}
use Rattle.fancy_meaning.specs.MatchState.{MatchState}
use Rattle.fancy_laws.proofs.Every.{Every, item, no_item, every_weaker}
use Rattle.fancy_laws.proofs.Moves.{is_place_parts}
use Rattle.fancy_laws.proofs.WaysOf.{every_place_from}
use Rattle.fancy_literals.specs.Starts.{AreBytes, may_begin}
use Rattle.fancy_literals.specs.declared.starts.Starts.{Starts}
use Rattle.fancy_literals.proofs.StartLaws.{none_at_end}
use Rattle.fancy_starts.specs.Matches.{anchored_at, begun_at}
use Rattle.fancy_starts.proofs.Skipped.{of_one_start, same_from_next}
use Rattle.fancy_search.specs.Candidates.{IsNextCandidate, IsPassed, IsPassedBy}
use Rattle.fancy_search.specs.Searches.{AreAllOf, BeginsAt}
use Rattle.fancy_search.specs.declared.candidates.Candidates.{Candidates}
use Rattle.fancy_search.specs.declared.candidates.Candidates.TheVariants as candidates

-- an attempt from this start alone, whatever it may take
abbrev pub at_byte : ℕ → (backtracks steps : ℕ) → plain.RunOptions → plain.RunOptions
at_byte at backtracks steps o = record o { pos = at; anchored = true; backtrack_limit = backtracks; step_limit = steps }

-- it fits where the search does
pub attempt_fits : (t : machine.Task) (at backtracks steps : ℕ) → is_place t.text at ≡ true → run_fits t ≡ true →
    run_fits (record t { options = at_byte at backtracks steps t.options }) ≡ true
unfolding run_fits
attempt_fits t at backtracks steps place fits = and_from _ _ place (and_parts _ _ fits).1

nothing_chosen : (longest : Bool) → chosen longest [] ≡ None
nothing_chosen true = refl
nothing_chosen false = refl

no_attempt : (q : Search) (start : ℕ) → ways_from q start ≡ [] → attempt q start ≡ None
no_attempt q start none = ap (λ l. chosen q.leftmost_longest (filter (is_admitted q start) l)) none ∙ nothing_chosen q.leftmost_longest

nothing_found : (f : ℕ → Option MatchState) {starts : List ℕ} → Every (λ start. f start ≡ None) starts → filter_map f starts ≡ []
nothing_found f no_item = refl
nothing_found f (item {x = start} {xs = starts} none rest) = ap (λ o. cons_option o (filter_map f starts)) none ∙ nothing_found f rest

is_false : (b : Bool) → (b ≡ true → ⊥) → b ≡ false
is_false true h = absurd (h refl)
is_false false h = refl

module _ (i : Input) (c : Candidates) (begins : BeginsAt i c) (text : List ℕ) (o : plain.RunOptions) (all : o.anchored ≡ false) where
  abbrev q : Search
  q = search_of (plan i) text o

  not_anchored : q.anchored ≡ false
  not_anchored = ap₂ (λ a b. a || b) begins.any_start all

  pub passed_at_first : IsPassed i text o o.pos
  passed_at_first start low high at = absurd (omega (arith, low, high))

  -- nor does one begin at the next candidate, if an attempt finds none there, or if it is no place
  pub passed_one : (at : ℕ) → IsPassed i text o at → (is_place text at ≡ true → attempt q at ≡ None) → IsPassed i text o (at + 1)
  passed_one at before here start low high place =
      ⊎_elim
      (λ e. subst (λ k. attempt q k ≡ None) (sym e) (here (subst (λ k. is_place text k ≡ true) e place)))
      (λ other. before start low (omega (arith, high, other)) place)
      (cases_eq start at)

  -- if none is left there is no answer
  pub none_answered : IsPassed i text o (suc (length text)) → answer q ≡ None
  unfolding answer
  none_answered before =
      let none : (start : ℕ) → o.pos ≤ start → is_place text start ≡ true → attempt q start ≡ None =
      λ start low place. before start low (let inside = (is_place_parts text start place).0 in omega (arith, inside)) place in
      ap (λ v. option_map (as_numbers (group_count q.tree)) (slice_get (filter_map (attempt q) (if v then q.pos ∷ [] else places_from text q.pos)) 0)) not_anchored
      ∙ ap (λ l. option_map (as_numbers (group_count q.tree)) (slice_get l 0))
      (nothing_found (attempt q) (every_weaker (λ start at. none start at.0 at.1) (every_place_from text q.pos)))

  abbrev alone : ℕ → ℕ → ℕ → Option (List ℕ)
  alone at backtracks steps = answer (search_of (plan i) text (at_byte at backtracks steps o))

  abbrev from_here : ℕ → Option (List ℕ)
  from_here at = answer (begun_at at o.continued q)

  of_alone : (at backtracks steps : ℕ) → o.pos ≤ at → is_place text at ≡ true →
      MatchOption (alone at backtracks steps) (attempt q at ≡ None) (λ numbers. from_here at ≡ Some numbers)
  of_alone at backtracks steps low place =
      subst (λ b. MatchOption (answer (record (begun_at at o.continued q) { anchored = b })) (attempt q at ≡ None)
      (λ numbers. from_here at ≡ Some numbers))
      (sym (ap (λ b. b || true) begins.any_start))
      (of_one_start q at o.continued not_anchored begins.no_continue low place)

  -- what an attempt finds is the answer
  pub found_alone : (at backtracks steps : ℕ) (numbers : List ℕ) → o.pos ≤ at → is_place text at ≡ true → IsPassed i text o at →
      Some numbers ≡ alone at backtracks steps → answer q ≡ Some numbers
  found_alone at backtracks steps numbers low place before e =
      same_from_next q at o.continued not_anchored begins.no_continue low before
      ∙ subst (λ r. MatchOption r (attempt q at ≡ None) (λ ns. from_here at ≡ Some ns)) (sym e)
      (of_alone at backtracks steps low place)

  pub none_alone : (at backtracks steps : ℕ) → o.pos ≤ at → is_place text at ≡ true → None ≡ alone at backtracks steps → attempt q at ≡ None
  none_alone at backtracks steps low place e =
      subst (λ r. MatchOption r (attempt q at ≡ None) (λ ns. from_here at ≡ Some ns)) (sym e)
      (of_alone at backtracks steps low place)

-- up to the next candidate no way begins, and none at all if there is no next one
module _ (i : Input) (text : List ℕ) (bytes : AreBytes text) (o : plain.RunOptions) (from : ℕ) (before : IsPassed i text o from) where
  nowhere_here : (starts : Starts) → AreAllOf i (candidates.At starts) → (start : ℕ) → (starts.at_end ≡ true → start < length text) →
      may_begin starts text start ≡ false → attempt (search_of (plan i) text o) start ≡ None
  nowhere_here starts are start inside none = no_attempt (search_of (plan i) text o) start (are i text o start refl refl inside bytes none)

  passed_up_to : (starts : Starts) → AreAllOf i (candidates.At starts) → (to : ℕ) → to ≤ length text → IsPassedBy starts text from to →
      IsPassed i text o to
  passed_up_to starts are to within nowhere start low high place =
      ⊎_elim
      (λ less. before start low less place)
      (λ more. nowhere_here starts are start (λ _. omega (arith, high, within))
      (is_false (may_begin starts text start) (nowhere start more high)))
      (cases_lt start from)

  pub passed_to : (c : Candidates) → AreAllOf i c → (at : ℕ) → at ≤ length text → IsNextCandidate c text from (Some at) → IsPassed i text o at
  passed_to candidates.Everywhere are at within next = subst (IsPassed i text o) (sym next.0) before
  passed_to (candidates.At starts) are at within next = passed_up_to starts are at within next

  at_end : (starts : Starts) → AreAllOf i (candidates.At starts) → (starts.at_end ≡ true → length text < from) → (start : ℕ) →
      o.pos ≤ start → is_place text start ≡ true → length text ≤ start → start ≤ length text → (b : Bool) → starts.at_end ≡ b →
      attempt (search_of (plan i) text o) start ≡ None
  at_end starts are past start low place high within true is = before start low (let behind = past is in omega (arith, within, behind)) place
  at_end starts are past start low place high within false is =
      nowhere_here starts are start (λ other. absurd (false≢true (sym is ∙ other))) (none_at_end starts text start high)

  pub passed_all : (c : Candidates) → AreAllOf i c → IsNextCandidate c text from None → IsPassed i text o (suc (length text))
  passed_all candidates.Everywhere are next start low high place = before start low (omega (arith, high, next)) place
  passed_all (candidates.At starts) are next start low high place =
      ⊎_elim
      (λ less. passed_up_to starts are (length text) (omega arith) next.0 start low less place)
      (λ more. at_end starts are next.1 start low place more (omega (arith, high)) starts.at_end refl)
      (cases_lt start (length text))
