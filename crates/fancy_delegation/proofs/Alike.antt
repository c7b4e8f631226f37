-- From states that are related, ways that are related item by item: for every relation that goes along with what ways do.
use Rattle.std.proofs.Common.{◌≡◌, ℕ, Bool, true, false, not, ◌&&◌, if◌then◌else◌, ◌==◌, List, [], ◌∷◌, filter, reverse, Option, Some, None, is_some, slice_get, refl, ap, ap₂, ◌∙◌, subst}
use Rattle.std.specs.Prelude.{option_and_then}
use Rattle.fancy_meaning.specs.Tree.{Tree, Backref, BackrefExists, SubroutineCall, Assertion}
use Rattle.fancy_meaning.specs.Places.{places_from, places_back}
use Rattle.fancy_meaning.specs.Assertions.{holds, assertion_within, is_of_end}
use Rattle.fancy_meaning.specs.Moves.{past_piece}
use Rattle.fancy_meaning.specs.MatchState.{MatchState, Ways, stays_if, moved_to, with_span, has_way}
use Rattle.fancy_meaning.specs.Ways.{Setting, conditional, moves, asserts, ends_here, take_through, absent}
use Rattle.fancy_laws.proofs.Every.{every_anything}
use Rattle.fancy_delegation.proofs.Pairwise.{Pairwise, neither, both, pairs_append, pairs_flat_map, pairs_map, pairs_take, pairs_if, pairs_filter, pairs_same}
use Rattle.fancy_delegation.proofs.AlikeLoops.{WaysAlike, repeats_alike}
use Rattle.fancy_delegation.proofs.Related.{RelatesWays}

-- a relation of states that goes along with what ways do, where of captures only these groups are read
pub record GoesAlong (R : MatchState → MatchState → Type 0) (IsRead : ℕ → Type 0) : Type 0 where
  pub place : (s t : MatchState) → R s t → s.place ≡ t.place
  pub to_place : (s t : MatchState) (i : ℕ) → R s t → R (moved_to i s) (moved_to i t)
  pub spans : (g from : ℕ) (s t : MatchState) → R s t → R (with_span g (from, s.place) s) (with_span g (from, t.place) t)
  pub keeps : (s t : MatchState) → R s t → R (record s { kept = s.place }) (record t { kept = t.place })
  pub flags : (s t : MatchState) → R s t → R (record s { text_end = true }) (record t { text_end = true })
  pub read : (g : ℕ) → IsRead g → (s t : MatchState) → R s t → s.captures g ≡ t.captures g

-- nodes that read only such groups, and call only these
abbrev pub ReadsOnly : (IsRead IsCalled : ℕ → Type 0) → Tree → Type 0
ReadsOnly IsRead IsCalled (Backref g casei) = IsRead g
ReadsOnly IsRead IsCalled (BackrefExists g level) = IsRead g
ReadsOnly IsRead IsCalled (SubroutineCall g) = IsCalled g
ReadsOnly IsRead IsCalled e = Unit {0}

-- both have a first item, or neither has one
pub pairs_head : {R : MatchState → MatchState → Type 0} {hs ks : List MatchState} → Pairwise R hs ks →
    is_some (slice_get hs 0) ≡ is_some (slice_get ks 0)
pairs_head neither = refl
pairs_head (both r h) = refl

pub take_through_same : (p q : ℕ → Bool) → ((i : ℕ) → p i ≡ q i) → (is : List ℕ) → take_through p is ≡ take_through q is
take_through_same p q k [] = refl
take_through_same p q k (i ∷ is) = ap₂ (λ v rest. i ∷ (if v then [] else rest)) (k i) (take_through_same p q k is)

pub conditional_alike : {R : MatchState → MatchState → Type 0} (y y' n n' : Ways)
    (s t : MatchState) {hs ks : List MatchState} → WaysAlike R y y' → Pairwise R (n s) (n' t) → Pairwise R hs ks →
    Pairwise R (conditional (λ x. hs) y n s) (conditional (λ x. ks) y' n' t)
conditional_alike y y' n n' s t k other neither = other
conditional_alike y y' n n' s t k other (both {x = x} {y = z} r h) = k x z r

module _ (q : Setting) (R : MatchState → MatchState → Type 0) (IsRead IsCalled : ℕ → Type 0) (law : GoesAlong R IsRead) where
  pub move_alike : (s t : MatchState) (o p : Option ℕ) → o ≡ p → R s t → Pairwise R (moves q (λ i. o) s) (moves q (λ i. p) t)
  move_alike s t o p e r = subst (λ v. Pairwise R (moves q (λ i. o) s) (moves q (λ i. v) t)) e (here o)
    where
      here : (o : Option ℕ) → Pairwise R (moves q (λ i. o) s) (moves q (λ i. o) t)
      here None = neither
      here (Some i) = both (law.to_place s t i r) neither

  assertion_alike : (a : Assertion) → WaysAlike R (asserts q a) (asserts q a)
  assertion_alike a s t r =
      pairs_if (holds q.text s.place q.unicode a) (holds q.text t.place q.unicode a)
      (ap (λ p. holds q.text p q.unicode a) (law.place s t r)) (both (met (is_of_end a)) neither) neither
    where
      met : (v : Bool) → R (if v then record s { text_end = true } else s) (if v then record t { text_end = true } else t)
      met true = law.flags s t r
      met false = r

  stays_if_alike : (test test' : MatchState → Bool) (s t : MatchState) → test s ≡ test' t → R s t → Pairwise R (stays_if test s) (stays_if test' t)
  stays_if_alike test test' s t e r = pairs_if (test s) (test' t) e (both r neither) neither

  has_way_alike : (w w' : Ways) → WaysAlike R w w' → (s t : MatchState) → R s t → has_way w s ≡ has_way w' t
  has_way_alike w w' k s t r = pairs_head (k s t r)

  same_numbers : (is : List ℕ) → Pairwise (λ i j. i ≡ j) is is
  same_numbers is = pairs_same {P = λ i. Unit {0}} (λ i u. refl) (every_anything is (λ i. tt))

  behind_alike : (w w' : Ways) → WaysAlike R w w' → WaysAlike R (ends_here q w) (ends_here q w')
  behind_alike w w' k s t r =
      pairs_flat_map (λ i. filter (λ h. h.place == s.place) (w (moved_to i s))) (λ i. filter (λ h. h.place == t.place) (w' (moved_to i t)))
      (λ i j e. pairs_filter (λ h. h.place == s.place) (λ h. h.place == t.place)
      (λ h h' r'. ap₂ (λ a b. a == b) (law.place h h' r') (law.place s t r))
      (k (moved_to i s) (moved_to j t) (subst (λ l. R (moved_to i s) (moved_to l t)) e (law.to_place s t i r))))
      (subst (λ p. Pairwise (λ i j. i ≡ j) (places_back q.text s.place) (places_back q.text p)) (law.place s t r)
      (same_numbers (places_back q.text s.place)))

  absent_alike : (w w' : Ways) → WaysAlike R w w' → WaysAlike R (absent q w) (absent q w')
  absent_alike w w' k s t r =
      pairs_map (λ i. moved_to i s) (λ i. moved_to i t) (λ i j e. subst (λ l. R (moved_to i s) (moved_to l t)) e (law.to_place s t i r))
      (subst (λ l. Pairwise (λ i j. i ≡ j) (stops s w s.place) (reverse l))
      (take_through_same (λ i. has_way w (moved_to i s)) (λ i. has_way w' (moved_to i t))
      (λ i. has_way_alike w w' k (moved_to i s) (moved_to i t) (law.to_place s t i r)) (places_from q.text s.place)
      ∙ ap (λ p. take_through (λ i. has_way w' (moved_to i t)) (places_from q.text p)) (law.place s t r))
      (same_numbers (stops s w s.place)))
    where
      stops : MatchState → Ways → ℕ → List ℕ
      stops h v p = reverse (take_through (λ i. has_way v (moved_to i h)) (places_from q.text p))

  pub relates_alike : RelatesWays q (ReadsOnly IsRead IsCalled) (WaysAlike R)
  relates_alike = record {
    stay = λ s t r. both r neither;
    fail = λ s t r. neither;
    take = λ move is s t r. move_alike s t (move s.place) (move t.place) (ap move (law.place s t r)) r;
    assertion = λ w a ok. assertion_alike (assertion_within w a);
    continue_here =
        λ ok s t r. stays_if_alike (λ h. q.continued && h.place == q.pos) (λ h. q.continued && h.place == q.pos) s t
        (ap (λ p. q.continued && p == q.pos) (law.place s t r)) r;
    keep_out = λ ok s t r. both (law.keeps s t r) neither;
    reference = λ g casei ok s t r.
        move_alike s t (option_and_then (λ span. past_piece q.text q.unicode casei span s.place) (s.captures g))
        (option_and_then (λ span. past_piece q.text q.unicode casei span t.place) (t.captures g))
        (ap₂ (λ p c. option_and_then (λ span. past_piece q.text q.unicode casei span p) c) (law.place s t r) (law.read g ok s t r)) r;
    existence = λ g ok s t r. stays_if_alike (λ h. is_some (h.captures g)) (λ h. is_some (h.captures g)) s t (ap is_some (law.read g ok s t r)) r;
    next = λ w w' v v' h k s t r. pairs_flat_map v v' k (h s t r);
    or_else = λ w w' v v' h k s t r. pairs_append (h s t r) (k s t r);
    group = λ g e w w' ok h s t r.
        pairs_map (λ x. with_span g (s.place, x.place) x) (λ x. with_span g (t.place, x.place) x)
        (λ x y r'. subst (λ p. R (with_span g (s.place, x.place) x) (with_span g (p, y.place) y)) (law.place s t r)
        (law.spans g s.place x y r')) (h s t r);
    loop = λ lo hi greedy w w' h. repeats_alike R law.place w w' h q.text lo hi greedy;
    look_ahead = λ w w' h s t r.
        pairs_map (moved_to s.place) (moved_to t.place)
        (λ x y r'. subst (λ p. R (moved_to s.place x) (moved_to p y)) (law.place s t r) (law.to_place x y s.place r'))
        (h s t r);
    negated = λ w w' h s t r. stays_if_alike (λ x. not (has_way w x)) (λ x. not (has_way w' x)) s t (ap not (has_way_alike w w' h s t r)) r;
    look_behind = behind_alike;
    atom = λ w w' h s t r. pairs_take 1 (h s t r);
    choice = λ c c' y y' n n' h k l s t r. conditional_alike y y' n n' s t k (l s t r) (h s t r);
    absence = absent_alike;
  }
