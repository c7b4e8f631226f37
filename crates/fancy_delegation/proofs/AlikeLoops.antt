-- Loops of bodies that give lists related item by item.
use Rattle.std.proofs.Common.{◌≡◌, ℕ, zero, suc, ◌-◌, Bool, true, false, ◌==◌, List, length, Option, Some, None, ap₂, subst}
use Rattle.fancy_meaning.specs.MatchState.{MatchState, Ways}
use Rattle.fancy_meaning.specs.Loops.{required, prefer, at_most, if_moved, unbounded, repeats}
use Rattle.fancy_delegation.proofs.Pairwise.{Pairwise, neither, both, pairs_append, pairs_flat_map, pairs_if}

-- from related states, lists that are related item by item
abbrev pub WaysAlike : (MatchState → MatchState → Type 0) → Ways → Ways → Type 0
WaysAlike R w w' = (s t : MatchState) → R s t → Pairwise R (w s) (w' t)

pub prefer_alike : {R : MatchState → MatchState → Type 0} (greedy : Bool) {hs ks hs' ks' : List MatchState} →
    Pairwise R hs ks → Pairwise R hs' ks' → Pairwise R (prefer greedy hs hs') (prefer greedy ks ks')
prefer_alike true h k = pairs_append h k
prefer_alike false h k = pairs_append k h

module _ (R : MatchState → MatchState → Type 0) (place : (s t : MatchState) → R s t → s.place ≡ t.place) (w w' : Ways) (body : WaysAlike R w w') where
  pub required_alike : (n : ℕ) (rest rest' : Ways) → WaysAlike R rest rest' → WaysAlike R (required n w rest) (required n w' rest')
  required_alike zero rest rest' k s t r = k s t r
  required_alike (suc n) rest rest' k s t r =
      pairs_flat_map (required n w rest) (required n w' rest') (required_alike n rest rest' k) (body s t r)

  pub at_most_alike : (n : ℕ) (greedy : Bool) → WaysAlike R (at_most n greedy w) (at_most n greedy w')
  at_most_alike zero greedy s t r = both r neither
  at_most_alike (suc n) greedy s t r =
      prefer_alike greedy (pairs_flat_map (at_most n greedy w) (at_most n greedy w') (at_most_alike n greedy) (body s t r)) (both r neither)

  pub if_moved_alike : (again again' : Ways) (s t : MatchState) → R s t → WaysAlike R again again' →
      WaysAlike R (if_moved s again) (if_moved t again')
  if_moved_alike again again' s t r k h h' r' =
      pairs_if (h.place == s.place) (h'.place == t.place) (ap₂ (λ a b. a == b) (place h h' r') (place s t r)) (both r' neither) (k h h' r')

  pub unbounded_alike : (n : ℕ) (greedy : Bool) → WaysAlike R (unbounded n greedy w) (unbounded n greedy w')
  unbounded_alike zero greedy s t r = both r neither
  unbounded_alike (suc n) greedy s t r =
      prefer_alike greedy
      (pairs_flat_map (if_moved s (unbounded n greedy w)) (if_moved t (unbounded n greedy w'))
      (if_moved_alike (unbounded n greedy w) (unbounded n greedy w') s t r (unbounded_alike n greedy)) (body s t r))
      (both r neither)

  pub repeats_alike : (text : List ℕ) (lo : ℕ) (hi : Option ℕ) (greedy : Bool) →
      WaysAlike R (repeats text lo hi greedy w) (repeats text lo hi greedy w')
  repeats_alike text lo (Some hi) greedy =
      required_alike lo (at_most (hi - lo) greedy w) (at_most (hi - lo) greedy w') (at_most_alike (hi - lo) greedy)
  repeats_alike text lo None greedy =
      required_alike lo (λ s. unbounded (suc (length text) - s.place) greedy w s) (λ s. unbounded (suc (length text) - s.place) greedy w' s)
      (λ s t r.
      subst (λ p. Pairwise R (unbounded (suc (length text) - s.place) greedy w s)
      (unbounded (suc (length text) - p) greedy w' t)) (place s t r)
      (unbounded_alike (suc (length text) - s.place) greedy s t r))
