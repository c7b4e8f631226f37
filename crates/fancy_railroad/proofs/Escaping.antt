-- A text is escaped character by character.
use Rattle.std.proofs.Common.{◌≡◌, ℕ, List, [], ◌∷◌, ◌++◌, map, encode_utf8_all, refl, sym, ap, ◌∙◌, append_assoc, append-nil}
use Rattle.std.proofs.lemmas.Str.{encodes-append}
use Rattle.fancy_railroad.specs.Xml.{escaped, escaped_char}

escaped-append : (xs ys : List ℕ) → escaped (xs ++ ys) ≡ escaped xs ++ escaped ys
escaped-append [] ys = refl
escaped-append (c ∷ cs) ys =
    ap (λ l. escaped_char c ++ l) (escaped-append cs ys) ∙ sym (append_assoc (escaped_char c) (escaped cs) (escaped ys))

-- one character more
pub escaped_on : (xs : List ℕ) (c : ℕ) (old before new : List ℕ) → before ≡ old ++ encode_utf8_all (escaped xs) →
    new ≡ before ++ encode_utf8_all (escaped_char c) → new ≡ old ++ encode_utf8_all (escaped (xs ++ c ∷ []))
escaped_on xs c old before new so_far more =
    more
    ∙ ap (λ l. l ++ encode_utf8_all (escaped_char c)) so_far
    ∙ append_assoc old (encode_utf8_all (escaped xs)) (encode_utf8_all (escaped_char c))
    ∙ ap (λ l. old ++ l)
    (sym (encodes-append (escaped xs) (escaped_char c))
    ∙ ap encode_utf8_all (ap (λ l. escaped xs ++ l) (sym (append-nil (escaped_char c))) ∙ sym (escaped-append xs (c ∷ []))))

pub map-same : (xs : List ℕ) → map (λ x. x) xs ≡ xs
map-same [] = refl
map-same (x ∷ xs) = ap (λ l. x ∷ l) (map-same xs)
