-- What holds of every way of a node, from what holds of every way of its parts.
use Rattle.std.proofs.Common.{◌≡◌, ℕ, zero, suc, ◌-◌, ◌≤◌, Bool, true, false, if◌then◌else◌, List, [], ◌∷◌, filter, length, Option, Some, None, ◌==◌, refl, arith, eqb-true}
use Rattle.fancy_meaning.specs.Tree.{Assertion}
use Rattle.fancy_meaning.specs.Places.{range_down, range_from, is_place, places_back, places_from}
use Rattle.fancy_meaning.specs.Assertions.{holds, is_of_end}
use Rattle.fancy_meaning.specs.Moves.{Move}
use Rattle.fancy_meaning.specs.MatchState.{MatchState, Ways, stays_if, one_of, moved_to, has_way}
use Rattle.fancy_meaning.specs.Ways.{Setting, conditional, moves, asserts, ends_here, take_through, absent}
use Rattle.fancy_laws.proofs.Every.{Every, no_item, item, every_one, every_append, every_append_parts, every_flat_map, every_map, every_if, every_filter, every_reverse}

pub every_stays_if : {Q : MatchState → Type 0} (test : MatchState → Bool) (s : MatchState) → (test s ≡ true → Q s) →
    Every Q (stays_if test s)
every_stays_if test s h = every_if (test s) (λ e. every_one (h e)) (λ e. no_item)

pub every_moves : {Q : MatchState → Type 0} (q : Setting) (move : Move) (s : MatchState) →
    ((i : ℕ) → move s.place ≡ Some i → Q (moved_to i s)) → Every Q (moves q move s)
every_moves {Q} q move s h = go (move s.place) h
  where
    go : (o : Option ℕ) → ((i : ℕ) → o ≡ Some i → Q (moved_to i s)) → Every Q (moves q (λ j. o) s)
    go None k = no_item
    go (Some i) k = every_one (k i refl)

pub every_asserts : {Q : MatchState → Type 0} (q : Setting) (a : Assertion) (s : MatchState) → Q s →
    Q (record s { text_end = true }) → Every Q (asserts q a s)
every_asserts {Q} q a s same met =
    every_if (holds q.text s.place q.unicode a) (λ e. every_one (choose (is_of_end a))) (λ e. no_item)
  where
    choose : (b : Bool) → Q (if b then record s { text_end = true } else s)
    choose true = met
    choose false = same

pub every_one_of : {Q : MatchState → Type 0} (s : MatchState) {ws : List Ways} → Every (λ w. Every Q (w s)) ws →
    Every Q (one_of ws s)
every_one_of s no_item = no_item
every_one_of s (item h hs) = every_append h (every_one_of s hs)

pub each_of_one_of : {P : MatchState → Type 0} {Q : MatchState → MatchState → Type 0} (ws : List Ways) →
    ((s : MatchState) → P s → Every (Q s) (one_of ws s)) → Every (λ w. (s : MatchState) → P s → Every (Q s) (w s)) ws
each_of_one_of [] h = no_item
each_of_one_of (w ∷ ws) h =
    item (λ s p. (every_append_parts (w s) (one_of ws s) (h s p)).0)
    (each_of_one_of ws (λ s p. (every_append_parts (w s) (one_of ws s) (h s p)).1))

pub every_conditional : {P Q : MatchState → Type 0} (c t f : Ways) (s : MatchState) → Every P (c s) →
    ((s' : MatchState) → P s' → Every Q (t s')) → Every Q (f s) → Every Q (conditional c t f s)
every_conditional {P} {Q} c t f s first true_branch false_branch = go (c s) first
  where
    go : (l : List MatchState) → Every P l → Every Q (conditional (λ x. l) t f s)
    go [] h = false_branch
    go (x ∷ xs) (item p h) = true_branch x p

-- ---- places before and after

every_down : (i n : ℕ) → i ≤ n → Every (λ j. j ≤ n) (range_down i)
every_down zero n le = every_one le
every_down (suc i) n le = item le (every_down i n (omega arith))

every_on : (i n m : ℕ) → m ≤ i → Every (λ j. m ≤ j) (range_from i n)
every_on i zero m le = no_item
every_on i (suc n) m le = item le (every_on (suc i) n m (omega arith))

pub every_place_back : (text : List ℕ) (i : ℕ) → Every (λ j. (j ≤ i) × (is_place text j ≡ true)) (places_back text i)
unfolding places_back
every_place_back text i = every_filter (is_place text) (λ j le e. (le, e)) (every_down i i (omega arith))

pub every_place_from : (text : List ℕ) (i : ℕ) → Every (λ j. (i ≤ j) × (is_place text j ≡ true)) (places_from text i)
unfolding places_from
every_place_from text i = every_filter (is_place text) (λ j le e. (le, e)) (every_on i (suc (length text) - i) i (omega arith))

pub every_ends_here : {P : ℕ → MatchState → Type 0} {Q : MatchState → Type 0} (q : Setting) (body : Ways) (s : MatchState) →
    ((i : ℕ) → i ≤ s.place → is_place q.text i ≡ true → Every (P i) (body (moved_to i s))) →
    ((i : ℕ) (t : MatchState) → i ≤ s.place → is_place q.text i ≡ true → P i t → t.place ≡ s.place → Q t) →
    Every Q (ends_here q body s)
every_ends_here {P} {Q} q body s from here =
    every_flat_map {Q = Q} (λ i. filter (λ t. t.place == s.place) (body (moved_to i s)))
    (λ i b. every_filter {P = P i} {Q = Q} (λ t. t.place == s.place) (λ t p e. here i t b.0 b.1 p (eqb-true t.place s.place e))
    (from i b.0 b.1))
    (every_place_back q.text s.place)

every_take_through : {P : ℕ → Type 0} {is : List ℕ} (test : ℕ → Bool) → Every P is → Every P (take_through test is)
every_take_through test no_item = no_item
every_take_through test (item {x = i} p h) = item p (every_if (test i) (λ e. no_item) (λ e. every_take_through test h))

pub every_absent : {Q : MatchState → Type 0} (q : Setting) (x : Ways) (s : MatchState) →
    ((i : ℕ) → s.place ≤ i → is_place q.text i ≡ true → Q (moved_to i s)) → Every Q (absent q x s)
every_absent {Q} q x s h =
    every_map {Q = Q} (λ i. moved_to i s) (λ i b. h i b.0 b.1)
    (every_reverse (every_take_through (λ i. has_way x (moved_to i s)) (every_place_from q.text s.place)))
