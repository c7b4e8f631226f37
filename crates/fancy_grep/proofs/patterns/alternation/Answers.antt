use Rattle.std.proofs.Common.{◌≡◌, ℕ, ◌≤◌, List, [], ◌∷◌, ◌++◌, length, map, codes, string_bytes, refl, ap, ◌∙◌, arith}
use Rattle.std.specs.List.{flat_map, join_by}
use Rattle.std.proofs.lemmas.Result.{IfOk-weaker}
use Rattle.fancy_grep.specs.Patterns.{alternation, read_as}
use Rattle.fancy_grep.proofs.patterns.alternation.Goals as goal

-- the texts of values, each after a separator
each_after : {X : Type 0} (text : X → List ℕ) (separator : List ℕ) (xs : List X) →
    flat_map (λ x. separator ++ text x) xs ≡ flat_map (λ t. separator ++ t) (map text xs)
each_after text separator [] = refl
each_after text separator (x ∷ xs) = ap (λ r. (separator ++ text x) ++ r) (each_after text separator xs)

several : {X : Type 0} (text : X → List ℕ) (xs : List X) → 2 ≤ length xs →
    codes "(?:" ++ (join_by text (codes ")|(?:") xs ++ codes ")") ≡ alternation (map text xs)
several text [] two = absurd (omega (arith, two))
several text (x ∷ []) two = absurd (omega (arith, two))
several text (x ∷ y ∷ xs) two = ap (λ r. codes "(?:" ++ ((text x ++ r) ++ codes ")")) (each_after text (codes ")|(?:") (y ∷ xs))

pub returns : goal.returns
returns c =
    IfOk-weaker c.enclosed.result
    (λ s. string_bytes s ≡ codes "(?:" ++ (c.as_str-in_default.result.now ++ codes ")"))
    (λ s. string_bytes s ≡ alternation (map (read_as c.args.is_text) (map string_bytes c.args.patterns.now)))
    (λ s h. h ∙ ap (λ t. codes "(?:" ++ (t ++ codes ")")) (c.as_str-in_default.ensures.value ∙ c.in_ok-parts-in_default.ensures.ok)
    ∙ several string_bytes c.as_slice.result.now c.in_default.len_at_least
    ∙ ap alternation (ap (map string_bytes) c.as_slice.ensures.value ∙ c.in_ok-read.ensures))
    c.enclosed.ensures
