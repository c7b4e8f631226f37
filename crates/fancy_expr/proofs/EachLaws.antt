-- What holds of each element of a list.
use Rattle.std.proofs.Common.{zero, suc, List, [], ◌∷◌, ◌++◌, All, arith}
use Rattle.fancy_expr.specs.Each.{Each}

module _ {X : Type 0} (P : X → Type 0) where
  pub each_append : (xs ys : List X) → Each P xs → Each P ys → Each P (xs ++ ys)
  each_append [] ys h k = k
  each_append (x ∷ xs) ys h k = (h.0, each_append xs ys h.1 k)

  pub each_all : (xs : List X) → Each P xs → All P xs
  each_all [] h k d lt = absurd (omega arith)
  each_all (x ∷ xs) h zero d lt = h.0
  each_all (x ∷ xs) h (suc k) d lt = each_all xs h.1 k d (omega arith)

pub each_map : {X : Type 0} (P Q : X → Type 0) (xs : List X) → ((x : X) → P x → Q x) → Each P xs → Each Q xs
each_map P Q [] f h = tt
each_map P Q (x ∷ xs) f h = (f x h.0, each_map P Q xs f h.1)
