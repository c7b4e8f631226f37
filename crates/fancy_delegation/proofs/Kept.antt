-- What every way of a node leaves as it is, or only adds to: for every relation between a state and a later one that
-- each construct keeps.
use Rattle.std.proofs.Common.{◌≡◌, ℕ, zero, suc, ◌-◌, ◌≤◌, Bool, true, false, not, ◌&&◌, if◌then◌else◌, ◌==◌, List, [], ◌∷◌, length, filter, flat_map, Option, Some, None, is_some, option_and_then, refl, arith, eqb-true}
use Rattle.std.proofs.lemmas.Option.{option_and_then_some}
use Rattle.fancy_meaning.specs.Tree.{Tree, Assert, Group, KeepOut, Within, Assertion}
use Rattle.fancy_meaning.specs.Places.{is_place, range_from, places_from, places_back}
use Rattle.fancy_meaning.specs.Assertions.{holds, assertion_within, is_of_end}
use Rattle.fancy_meaning.specs.Moves.{past_piece}
use Rattle.fancy_meaning.specs.MatchState.{MatchState, Span, Ways, stays_if, moved_to, with_span, has_way}
use Rattle.fancy_meaning.specs.Loops.{required, prefer, at_most, if_moved, unbounded, repeats}
use Rattle.fancy_meaning.specs.Ways.{Setting, conditional, moves, asserts, take_through}
use Rattle.fancy_laws.proofs.Every.{Every, no_item, item, every_weaker, every_append, every_flat_map, every_map, every_anything, every_if, every_filter, every_take, every_reverse}
use Rattle.fancy_delegation.proofs.Related.{RelatesWays}
use Rattle.fancy_delegation.proofs.Forward.{take_forward, past_piece_forward}

pub record IsKept (Allowed : Tree → Type 0) (R : MatchState → MatchState → Type 0) : Type 0 where
  pub same : (s : MatchState) → R s s
  pub on : (s t u : MatchState) → R s t → R t u → R s u
  pub to_place : (s : MatchState) (i : ℕ) → s.place ≤ i → R s (moved_to i s)
  -- a look-ahead gives the place back
  pub back : (s t : MatchState) → R s t → R s (moved_to s.place t)
  -- a lookbehind begins before
  pub before : (s t : MatchState) (i : ℕ) → t.place ≡ s.place → R (moved_to i s) t → R s t
  pub meets_end : (w : Within) (a : Assertion) (s : MatchState) → Allowed (Assert w a) →
      is_of_end (assertion_within w a) ≡ true → R s (record s { text_end = true })
  pub keeps : (s : MatchState) → Allowed KeepOut → R s (record s { kept = s.place })
  pub spans : (g : ℕ) (e : Tree) (span : Span) (s t : MatchState) → Allowed (Group g e) → R s t → R s (with_span g span t)

-- every way is a later state
abbrev pub EachKept : (MatchState → MatchState → Type 0) → Ways → Type 0
EachKept R w = (s : MatchState) → Every (R s) (w s)

every_prefer : {P : MatchState → Type 0} (greedy : Bool) {on off : List MatchState} → Every P on → Every P off → Every P (prefer greedy on off)
every_prefer true h k = every_append h k
every_prefer false h k = every_append k h

every_from_on : (i n m : ℕ) → m ≤ i → Every (λ j. m ≤ j) (range_from i n)
every_from_on i zero m le = no_item
every_from_on i (suc n) m le = item le (every_from_on (suc i) n m (omega (arith, le)))

places_from_on : (text : List ℕ) (i : ℕ) → Every (λ j. i ≤ j) (places_from text i)
unfolding places_from
places_from_on text i = every_filter (is_place text) (λ j le e. le) (every_from_on i (suc (length text) - i) i (omega arith))

every_take_through : {P : ℕ → Type 0} (test : ℕ → Bool) {is : List ℕ} → Every P is → Every P (take_through test is)
every_take_through test no_item = no_item
every_take_through test (item {x = i} p h) = item p (every_if (test i) (λ e. no_item) (λ e. every_take_through test h))

module _ (q : Setting) (Allowed : Tree → Type 0) (R : MatchState → MatchState → Type 0) (law : IsKept Allowed R) where
  itself : (s : MatchState) → Every (R s) (s ∷ [])
  itself s = item (law.same s) no_item

  move_kept : (s : MatchState) (o : Option ℕ) → ((i : ℕ) → o ≡ Some i → s.place ≤ i) → Every (R s) (moves q (λ i. o) s)
  move_kept s None k = no_item
  move_kept s (Some i) k = item (law.to_place s i (k i refl)) no_item

  stays_if_kept : (test : MatchState → Bool) → EachKept R (stays_if test)
  stays_if_kept test s = every_if (test s) (λ e. itself s) (λ e. no_item)

  -- from each way on
  bind_kept : (w v : Ways) → EachKept R w → EachKept R v → (s : MatchState) → Every (R s) (flat_map v (w s))
  bind_kept w v h k s = every_flat_map v (λ t r. every_weaker (λ u r'. law.on s t u r r') (k t)) (h s)

  module _ (w : Ways) (body : EachKept R w) where
    required_kept : (n : ℕ) (rest : Ways) → EachKept R rest → EachKept R (required n w rest)
    required_kept zero rest k s = k s
    required_kept (suc n) rest k s = bind_kept w (required n w rest) body (required_kept n rest k) s

    at_most_kept : (n : ℕ) (greedy : Bool) → EachKept R (at_most n greedy w)
    at_most_kept zero greedy s = itself s
    at_most_kept (suc n) greedy s = every_prefer greedy (bind_kept w (at_most n greedy w) body (at_most_kept n greedy) s) (itself s)

    unbounded_kept : (n : ℕ) (greedy : Bool) → EachKept R (unbounded n greedy w)
    unbounded_kept zero greedy s = itself s
    unbounded_kept (suc n) greedy s =
        every_prefer greedy
        (bind_kept w (if_moved s (unbounded n greedy w)) body (λ t. every_if (t.place == s.place) (λ e. itself t) (λ e. unbounded_kept n greedy t)) s)
        (itself s)

    repeats_kept : (lo : ℕ) (hi : Option ℕ) (greedy : Bool) → EachKept R (repeats q.text lo hi greedy w)
    repeats_kept lo (Some hi) greedy = required_kept lo (at_most (hi - lo) greedy w) (at_most_kept (hi - lo) greedy)
    repeats_kept lo None greedy =
        required_kept lo (λ s. unbounded (suc (length q.text) - s.place) greedy w s) (λ s. unbounded_kept (suc (length q.text) - s.place) greedy s)

  conditional_kept : (t f : Ways) (s : MatchState) {hs : List MatchState} → EachKept R t → Every (R s) (f s) →
      Every (R s) hs → Every (R s) (conditional (λ x. hs) t f s)
  conditional_kept t f s k other no_item = other
  conditional_kept t f s k other (item {x = x} r h) = every_weaker (λ u r'. law.on s x u r r') (k x)

  asserts_kept : (w : Within) (a : Assertion) → Allowed (Assert w a) → EachKept R (asserts q (assertion_within w a))
  asserts_kept w a ok s =
      every_if (holds q.text s.place q.unicode (assertion_within w a))
      (λ e. item (met (is_of_end (assertion_within w a)) refl) no_item) (λ e. no_item)
    where
      met : (v : Bool) → is_of_end (assertion_within w a) ≡ v → R s (if v then record s { text_end = true } else s)
      met true e = law.meets_end w a s ok e
      met false e = law.same s

  pub relates_kept : RelatesWays q Allowed (λ w w'. EachKept R w)
  relates_kept = record {
    stay = itself;
    fail = λ s. no_item;
    take = λ move is s. move_kept s (move s.place) (λ i e. take_forward q move is s.place i e);
    assertion = asserts_kept;
    continue_here = λ ok. stays_if_kept (λ s. q.continued && s.place == q.pos);
    keep_out = λ ok s. item (law.keeps s ok) no_item;
    reference = λ g casei ok s.
        move_kept s (option_and_then (λ span. past_piece q.text q.unicode casei span s.place) (s.captures g))
        (λ i e. option_and_then_some (λ span. past_piece q.text q.unicode casei span s.place) (s.captures g) i e
        (λ span at f. past_piece_forward q.text q.unicode casei span s.place i f));
    existence = λ g ok. stays_if_kept (λ s. is_some (s.captures g));
    next = λ w w' v v' h k. bind_kept w v h k;
    or_else = λ w w' v v' h k s. every_append (h s) (k s);
    group = λ g e w w' ok h s. every_map (λ t. with_span g (s.place, t.place) t) (λ t r. law.spans g e (s.place, t.place) s t ok r) (h s);
    loop = λ lo hi greedy w w' h. repeats_kept w h lo hi greedy;
    look_ahead = λ w w' h s. every_map (moved_to s.place) (λ t r. law.back s t r) (h s);
    negated = λ w w' h. stays_if_kept (λ s. not (has_way w s));
    look_behind = λ w w' h s.
        every_flat_map {P = λ i. Unit {0}} (λ i. filter (λ t. t.place == s.place) (w (moved_to i s)))
        (λ i u. every_filter (λ t. t.place == s.place) (λ t r e. law.before s t i (eqb-true t.place s.place e) r) (h (moved_to i s)))
        (every_anything (places_back q.text s.place) (λ i. tt));
    atom = λ w w' h s. every_take 1 (h s);
    choice = λ c c' t t' f f' h k l s. conditional_kept t f s k (l s) (h s);
    absence = λ w w' h s.
        every_map (λ i. moved_to i s) (λ i le. law.to_place s i le)
        (every_reverse (every_take_through (λ i. has_way w (moved_to i s)) (places_from_on q.text s.place)));
  }
