-- What stands at an index of a list, and what is put there.
use Rattle.std.proofs.Common.{◌≡◌, ◌≢◌, ℕ, zero, suc, ◌<◌, List, [], ◌∷◌, length, get_or, slice_set, Some, refl, sym, ap, arith}
use Rattle.std.specs.Prelude.{slice_get}

pub get_same : {X : Type 0} (xs : List X) (k : ℕ) (y : X) → k < length xs → slice_get (slice_set xs k y) k ≡ Some y
get_same [] k y lt = absurd (omega (arith, lt))
get_same (x ∷ xs) zero y lt = refl
get_same (x ∷ xs) (suc k) y lt = get_same xs k y (omega (arith, lt))

pub get_other : {X : Type 0} (xs : List X) (k j : ℕ) (y : X) → j ≢ k → slice_get (slice_set xs k y) j ≡ slice_get xs j
get_other [] k j y ne = refl
get_other (x ∷ xs) zero zero y ne = absurd (ne refl)
get_other (x ∷ xs) zero (suc j) y ne = refl
get_other (x ∷ xs) (suc k) zero y ne = refl
get_other (x ∷ xs) (suc k) (suc j) y ne = get_other xs k j y (λ e. ne (ap suc e))

pub get_read : {X : Type 0} (xs : List X) (k : ℕ) (x : X) → k < length xs → x ≡ get_or xs k x → slice_get xs k ≡ Some x
get_read [] k x lt e = absurd (omega (arith, lt))
get_read (y ∷ ys) zero x lt e = ap Some (sym e)
get_read (y ∷ ys) (suc k) x lt e = get_read ys k x (omega (arith, lt)) e
