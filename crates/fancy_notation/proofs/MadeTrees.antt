-- The trees of made expressions.
use Rattle.std.proofs.Common.{◌≡◌, ℕ, ◌<◌, List, [], ◌∷◌, ◌++◌, map, length, refl, sym, ap, ◌∙◌, arith, append_assoc}
use Rattle.std.proofs.lemmas.List.{map-append}
use Rattle.fancy_meaning.specs.Tree.{Tree, Concat, trees}
use Rattle.fancy_expr.specs.declared.expr.Expr.{Expr}
use Rattle.fancy_expr.specs.Views.{tree_of}
use Rattle.fancy_notation.specs.Grammar.{joined}

pub joined-many : (es : List Expr) → 1 < length es → Concat (trees (map tree_of es)) ≡ joined (map tree_of es)
joined-many [] h = absurd (omega (arith, h))
joined-many (a ∷ []) h = absurd (omega (arith, h))
joined-many (a ∷ b ∷ es) h = refl

-- one more after those that were made of the list
pub one_more : (given old new : List Expr) (e : Expr) (f : ℕ → Tree) (cs : List ℕ) (c : ℕ) →
    map tree_of old ≡ map tree_of given ++ map f cs → new ≡ old ++ e ∷ [] → tree_of e ≡ f c → map tree_of new ≡ map tree_of given ++ map f (cs ++ c ∷ [])
one_more given old new e f cs c before is made =
    ap (map tree_of) is
    ∙ map-append tree_of old (e ∷ [])
    ∙ ap (λ l. l ++ tree_of e ∷ []) before
    ∙ append_assoc (map tree_of given) (map f cs) (tree_of e ∷ [])
    ∙ ap (λ t. map tree_of given ++ (map f cs ++ t ∷ [])) made
    ∙ ap (λ l. map tree_of given ++ l) (sym (map-append f cs (c ∷ [])))

pub map_self : (cs : List ℕ) → map (λ ch. ch) cs ≡ cs
map_self [] = refl
map_self (c ∷ cs) = ap (λ l. c ∷ l) (map_self cs)
