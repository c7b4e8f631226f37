-- The ways of a loop, from those of its body.
use Rattle.std.specs.Prelude.{ℕ, zero, suc, ◌-◌, Bool, true, false, List, [], ◌∷◌, ◌++◌, length, flat_map, Option, Some, None, if◌then◌else◌, ◌==◌}
use Rattle.fancy_meaning.specs.MatchState.{MatchState, Ways}

-- n iterations, and then the rest
abbrev pub required : ℕ → Ways → Ways → Ways
required zero body rest s = rest s
required (suc n) body rest s = flat_map (required n body rest) (body s)

-- greedy goes on first, lazy stops first
abbrev pub prefer : Bool → List MatchState → List MatchState → List MatchState
prefer true on off = on ++ off
prefer false on off = off ++ on

-- at most n iterations more
abbrev pub at_most : ℕ → Bool → Ways → Ways
at_most zero greedy body s = s ∷ []
at_most (suc n) greedy body s = prefer greedy (flat_map (at_most n greedy body) (body s)) (s ∷ [])

-- an iteration that moves nothing leaves the loop
abbrev pub if_moved : MatchState → Ways → Ways
if_moved before again after = if after.place == before.place then after ∷ [] else again after

-- any number of iterations more, of which at most n can move
abbrev pub unbounded : ℕ → Bool → Ways → Ways
unbounded zero greedy body s = s ∷ []
unbounded (suc n) greedy body s =
    prefer greedy (flat_map (if_moved s (unbounded n greedy body)) (body s)) (s ∷ [])

-- No more iterations can move than there are bytes left: `LoopLaw` says the same without a count.
abbrev pub repeats : List ℕ → ℕ → Option ℕ → Bool → Ways → Ways
repeats text lo None greedy body =
    required lo body (λ s. unbounded (suc (length text) - s.place) greedy body s)
repeats text lo (Some hi) greedy body = required lo body (at_most (hi - lo) greedy body)
