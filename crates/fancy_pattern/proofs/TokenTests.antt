-- Tests of tokens, from token to token.
use Rattle.std.proofs.Common.{◌≡◌, ℕ, ◌+◌, ◌<◌, Bool, true, false, ◌||◌, cond, List, [], ◌∷◌, ◌++◌, length, map, take, get_or, refl, sym, ap, ◌∙◌}
use Rattle.std.specs.List.{list_any, count_by}
use Rattle.std.proofs.lemmas.List.{map-append, take_more}
use Rattle.std.proofs.lemmas.List.Folds.{list_any-append}
use Rattle.std.proofs.lemmas.List.Sums.{sum_by_push}
use Rattle.fancy_tokens.specs.declared.tokens.Placed.{Placed as Code}
use Rattle.fancy_tokens.specs.Tokens.{Placed}
use Rattle.fancy_tokens.specs.PatternViews.{placed_of}

one_more : (ts : List Code) (i : ℕ) (d : Code) → i < length ts →
    map placed_of (take (i + 1) ts) ≡ map placed_of (take i ts) ++ placed_of (get_or ts i d) ∷ []
one_more ts i d h = ap (map placed_of) (take_more ts i d h) ∙ map-append placed_of (take i ts) (get_or ts i d ∷ [])

or_swapped : (a b : Bool) → (a || b) ≡ (b || a)
or_swapped true true = refl
or_swapped true false = refl
or_swapped false true = refl
or_swapped false false = refl

or_false : (b : Bool) → (b || false) ≡ b
or_false true = refl
or_false false = refl

pub any_more : (f : Placed → Bool) (ts : List Code) (i : ℕ) (d : Code) (old new b : Bool) → i < length ts → f (placed_of (get_or ts i d)) ≡ b →
    old ≡ list_any f (map placed_of (take i ts)) → new ≡ (b || old) → new ≡ list_any f (map placed_of (take (i + 1) ts))
any_more f ts i d old new b h here before is =
    let us = map placed_of (take i ts) in
    let t = placed_of (get_or ts i d) in
    is
    ∙ or_swapped b old
    ∙ ap (λ x. x || b) before
    ∙ ap (λ x. list_any f us || x) (sym here ∙ sym (or_false (f t)))
    ∙ sym (ap (list_any f) (one_more ts i d h) ∙ list_any-append f us (t ∷ []))

pub counted_more : (f : Placed → Bool) (ts : List Code) (i : ℕ) (d : Code) (old new n : ℕ) → i < length ts → n ≡ cond (f (placed_of (get_or ts i d))) 1 0 →
    old ≡ count_by f (map placed_of (take i ts)) → new ≡ old + n → new ≡ count_by f (map placed_of (take (i + 1) ts))
counted_more f ts i d old new n h here before is =
    let us = map placed_of (take i ts) in
    let t = placed_of (get_or ts i d) in
    is
    ∙ ap (λ m. m + n) before
    ∙ ap (λ m. count_by f us + m) here
    ∙ sym (ap (count_by f) (one_more ts i d h) ∙ sum_by_push (λ y. cond (f y) 1 0) us t)
