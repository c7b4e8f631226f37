-- Of each element of a list something holds, as nested pairs.
use Rattle.std.specs.Prelude.{List, [], ◌∷◌}

abbrev pub Each : {X : Type 0} → (X → Type 0) → List X → Type 0
Each P [] = Unit {0}
Each P (x ∷ xs) = P x × Each P xs
