-- An output grows piece by piece.
use Rattle.std.proofs.Common.{◌++◌, ℕ, List, [], OnOk, Result, Ok, Err, sym, subst, append_assoc, append-nil}
use Rattle.fancy_replace.specs.Outputs.{Grows}

module _ {S : Type 0} (holds : S → ℕ → List ℕ → Type 0) where
  pub grows_none : (s : S) → Grows holds s [] s
  grows_none s room text h = subst (holds s room) (sym (append-nil text)) h

  pub grows_on : (s t u : S) (before more : List ℕ) → Grows holds s before t → Grows holds t more u → Grows holds s (before ++ more) u
  grows_on s t u before more first next room text h =
      subst (holds u room) (append_assoc text before more) (next room (text ++ before) (first room text h))

  -- the second piece is appended if a call answers no error
  pub grows_if_ok : {A E : Type 0} (s t u : S) (before more : List ℕ) → Grows holds s before t → (r : Result A E) →
      OnOk r (Grows holds t more u) → OnOk r (Grows holds s (before ++ more) u)
  grows_if_ok s t u before more first (Ok x) next = grows_on s t u before more first next
  grows_if_ok s t u before more first (Err e) next = tt
