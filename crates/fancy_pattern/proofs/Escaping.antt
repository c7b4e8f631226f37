-- What a text is escaped to, character by character.
use Rattle.std.proofs.Common.{◌≡◌, ℕ, List, [], ◌∷◌, ◌++◌, map, encode_utf8_all, refl, sym, ap, ◌∙◌, append-nil, append_assoc}
use Rattle.std.proofs.lemmas.Str.{encodes-append}
use Rattle.fancy_pattern.specs.Escape.{escaped, escaped_char}

pub escaped-append : (xs ys : List ℕ) → escaped (xs ++ ys) ≡ escaped xs ++ escaped ys
escaped-append [] ys = refl
escaped-append (c ∷ cs) ys =
    ap (λ l. escaped_char c ++ l) (escaped-append cs ys) ∙ sym (append_assoc (escaped_char c) (escaped cs) (escaped ys))

-- one character more
pub escaped_on : (xs : List ℕ) (c : ℕ) (old new : List ℕ) → old ≡ encode_utf8_all (escaped xs) → new ≡ old ++ encode_utf8_all (escaped_char c) →
    new ≡ encode_utf8_all (escaped (xs ++ c ∷ []))
escaped_on xs c old new before more =
    more
    ∙ ap (λ l. l ++ encode_utf8_all (escaped_char c)) before
    ∙ sym (encodes-append (escaped xs) (escaped_char c))
    ∙ ap encode_utf8_all (ap (λ l. escaped xs ++ l) (sym (append-nil (escaped_char c))) ∙ sym (escaped-append xs (c ∷ [])))

pub map-same : (xs : List ℕ) → map (λ x. x) xs ≡ xs
map-same [] = refl
map-same (x ∷ xs) = ap (λ l. x ∷ l) (map-same xs)
