-- Whatever is wanted next can come.
use Rattle.std.proofs.Common.{◌≡◌, ℕ, false, List, [], ◌∷◌, ◌++◌, map, None, codes, refl, ◌∙◌}
use Rattle.fancy_notation.specs.Tokens.{Token, Placed, Closed, Quoted, Word}
use Rattle.fancy_notation.specs.Words.{form_of, number_of, level_of, count_of, bound_at_least}
use Rattle.fancy_notation.specs.Misfit.{Want, Node, Head, Shut, Parts, Count, Bound, Number, Level, Bytes, Class, VerbName, misfit}

-- tokens that meet a want
meeting : Want → List Token
meeting Node = Quoted false [] ∷ []
meeting Head = Word (codes "cat") ∷ Closed ∷ []
meeting Shut = Closed ∷ []
meeting Parts = Closed ∷ []
meeting Count = Word (codes "0") ∷ Word (codes "*") ∷ []
meeting (Bound lo) = Word (codes "*") ∷ []
meeting Number = Word (codes "0") ∷ []
meeting Level = Word (codes "0") ∷ []
meeting Bytes = Closed ∷ []
meeting Class = Quoted false (97 ∷ []) ∷ []
meeting VerbName = Word (codes "fail") ∷ []

anywhere : Token → Placed
anywhere t = record { at = 0; token = t }

meets : (w : Want) (end g : ℕ) (ps : List Placed) (k : List Want) → misfit end (map anywhere (meeting w) ++ ps) g (w ∷ k) ≡ misfit end ps g k
unfolding meeting anywhere form_of number_of level_of count_of bound_at_least
meets Node end g ps k = refl
meets Head end g ps k = refl
meets Shut end g ps k = refl
meets Parts end g ps k = refl
meets Count end g ps k = refl
meets (Bound lo) end g ps k = refl
meets Number end g ps k = refl
meets Level end g ps k = refl
meets Bytes end g ps k = refl
meets Class end g ps k = refl
meets VerbName end g ps k = refl

pub continued : (ws : List Want) → (more : List Placed) × ((end g : ℕ) → misfit end more g ws ≡ None)
continued [] = ([], λ end g. refl)
continued (w ∷ ws) = let r = continued ws in (map anywhere (meeting w) ++ r.0, λ end g. meets w end g r.0 ws ∙ r.1 end g)
