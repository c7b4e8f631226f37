-- Pairs of a state and a place as numbers.
use Rattle.std.specs.Prelude.{ℕ, Bool, true, false, List, [], ◌∷◌, nat_eq}
use lib.Pointwise.{pointwise}
use Rattle.fancy_nfa_laws.specs.NfaSearch.{Pair}

-- two lists of the same numbers
abbrev pub same_numbers : List ℕ → List ℕ → Bool
same_numbers = pointwise nat_eq

-- 1 where an iteration is to move and has not
abbrev pub stayed_number : Bool → ℕ
stayed_number true = 1
stayed_number false = 0

-- of each loop around: how many iterations were begun before, and whether this one is to move and has not
abbrev pub counter_numbers : List (ℕ × Bool) → List ℕ
counter_numbers [] = []
counter_numbers (t ∷ counters) = t.0 ∷ stayed_number t.1 ∷ counter_numbers counters

-- the numbers of a pair
abbrev pub key_of : Pair → List ℕ
key_of p = p.at ∷ p.place ∷ counter_numbers p.counters
