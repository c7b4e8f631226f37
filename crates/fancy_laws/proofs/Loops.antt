-- Every way of a loop comes from its state by some number of iterations, within the loop's bounds.
use Rattle.std.proofs.Common.{◌≡◌, ℕ, zero, suc, ◌+◌, ◌-◌, ◌≤◌, Bool, true, false, List, length, Option, Some, None, IfSome, ◌==◌, arith}
use Rattle.fancy_meaning.specs.MatchState.{MatchState, Ways}
use Rattle.fancy_meaning.specs.Loops.{required, prefer, at_most, if_moved, unbounded, repeats}
use Rattle.fancy_laws.proofs.Every.{Every, every_one, every_append, every_flat_map, every_if, every_weaker}

pub every_prefer : {Q : MatchState → Type 0} {on off : List MatchState} (greedy : Bool) → Every Q on → Every Q off →
    Every Q (prefer greedy on off)
every_prefer true h k = every_append h k
every_prefer false h k = every_append k h

-- the state comes by a count of iterations that is within the bounds
pub record Iterated (After : ℕ → MatchState → MatchState → Type 0) (lo : ℕ) (hi : Option ℕ) (s t : MatchState) : Type 0 where
  pub count : ℕ
  pub at_least : lo ≤ count
  pub at_most : IfSome hi (λ n. lo ≤ n → count ≤ n)
  pub after : After count s t

-- What an iteration does from a state that stands, and what so many do.
pub record IsIterable (Good : MatchState → Type 0) (One : MatchState → MatchState → Type 0)
    (After : ℕ → MatchState → MatchState → Type 0) : Type 0 where
  pub arrives : (s t : MatchState) → Good s → One s t → Good t
  pub none : (s : MatchState) → Good s → After 0 s s
  pub one_more : (n : ℕ) (s t u : MatchState) → Good s → One s t → After n t u → After (suc n) s u

module _ {Good : MatchState → Type 0} {One : MatchState → MatchState → Type 0} {After : ℕ → MatchState → MatchState → Type 0}
    (is : IsIterable Good One After) (body : Ways) (each : (s : MatchState) → Good s → Every (One s) (body s)) where
  -- so many iterations and n more
  abbrev Counted : (ℕ → Type 0) → ℕ → MatchState → MatchState → Type 0
  Counted Ok n s t = (k m : ℕ) × Ok k × (m ≡ k + n) × After m s t

  every_required : (Ok : ℕ → Type 0) (rest : Ways) → ((s : MatchState) → Good s → Every (Counted Ok 0 s) (rest s)) →
      (n : ℕ) (s : MatchState) → Good s → Every (Counted Ok n s) (required n body rest s)
  every_required Ok rest h zero s good = h s good
  every_required Ok rest h (suc n) s good =
      every_flat_map (required n body rest)
      (λ t one. every_weaker (λ u c. (c.0, suc c.1, c.2, omega (arith, c.3), is.one_more c.1 s t u good one c.4))
      (every_required Ok rest h n t (is.arrives s t good one)))
      (each s good)

  every_at_most : (greedy : Bool) (m : ℕ) (s : MatchState) → Good s → Every (Counted (λ k. k ≤ m) 0 s) (at_most m greedy body s)
  every_at_most greedy zero s good = every_one (0, 0, omega arith, omega arith, is.none s good)
  every_at_most greedy (suc m) s good =
      every_prefer greedy
      (every_flat_map {Q = Counted (λ k. k ≤ suc m) 0 s} (at_most m greedy body)
      (λ t one. every_weaker
      (λ u c. (suc c.0, suc c.1, omega (arith, c.2), omega (arith, c.3), is.one_more c.1 s t u good one c.4))
      (every_at_most greedy m t (is.arrives s t good one)))
      (each s good))
      (every_one (0, 0, omega arith, omega arith, is.none s good))

  every_unbounded : (greedy : Bool) (n : ℕ) (s : MatchState) → Good s →
      Every (Counted (λ k. Unit {0}) 0 s) (unbounded n greedy body s)
  every_unbounded greedy zero s good = every_one (0, 0, tt, omega arith, is.none s good)
  every_unbounded greedy (suc n) s good =
      every_prefer greedy
      (every_flat_map {Q = Counted (λ k. Unit {0}) 0 s} (if_moved s (unbounded n greedy body))
      (λ t one. let there = is.arrives s t good one in
      every_if (t.place == s.place)
      (λ e. every_one (1, 1, tt, omega arith, is.one_more 0 s t t good one (is.none t there)))
      (λ e. every_weaker (λ u c. (suc c.0, suc c.1, tt, omega (arith, c.3), is.one_more c.1 s t u good one c.4))
      (every_unbounded greedy n t there)))
      (each s good))
      (every_one (0, 0, tt, omega arith, is.none s good))

  pub every_repeats : (text : List ℕ) (lo : ℕ) (hi : Option ℕ) (greedy : Bool) (s : MatchState) → Good s →
      Every (Iterated After lo hi s) (repeats text lo hi greedy body s)
  every_repeats text lo None greedy s good =
      every_weaker (λ t c. record { count = c.1; at_least = omega (arith, c.3); at_most = tt; after = c.4 })
      (every_required (λ k. Unit {0}) (λ u. unbounded (suc (length text) - u.place) greedy body u)
      (λ u g. every_unbounded greedy (suc (length text) - u.place) u g) lo s good)
  every_repeats text lo (Some hi) greedy s good =
      every_weaker
      (λ t c. record { count = c.1; at_least = omega (arith, c.3); at_most = λ le. omega (arith, le, c.2, c.3); after = c.4 })
      (every_required (λ k. k ≤ hi - lo) (at_most (hi - lo) greedy body) (every_at_most greedy (hi - lo)) lo s good)
