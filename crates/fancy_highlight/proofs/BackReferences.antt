-- Ends that refer back, character by character.
use Rattle.std.proofs.Common.{◌≡◌, ◌==◌, ◌&&◌, ◌||◌, ℕ, Bool, true, false, List, [], ◌∷◌, ◌++◌, not, if◌then◌else◌, map, refl, sym, ap, ◌∙◌, append_assoc, append-nil, encode_utf8_all, ⊎_elim}
use Rattle.std.specs.Prelude.{is_some}
use Rattle.std.proofs.lemmas.Bool.{true≢false}
use Rattle.std.proofs.lemmas.Bool.Decides.{eqb_tells}
use Rattle.std.proofs.lemmas.Str.{encodes-append}
use Rattle.fancy_highlight.specs.Ends.{end_after, end_for, group_of, reference, refers}

pub map-same : (xs : List ℕ) → map (λ x. x) xs ≡ xs
map-same [] = refl
map-same (x ∷ xs) = ap (λ l. x ∷ l) (map-same xs)

module _ (taken : ℕ → List ℕ) where
  equal : (c : ℕ) → (c == 92) ≡ true → c ≡ 92
  equal c e = ⊎_elim (λ same. same.1) (λ other. absurd (true≢false (sym e ∙ other.0))) (eqb_tells c 92)

  pub end-escape : (c : ℕ) (rest : List ℕ) → (c == 92) ≡ true → end_for taken (c ∷ rest) ≡ end_after taken true rest
  end-escape c [] e = ap (λ x. x ∷ []) (equal c e)
  end-escape c (d ∷ rest) e = ap (λ b. if b then reference taken (group_of d) d ++ end_for taken rest else c ∷ end_for taken (d ∷ rest)) e

  pub end-other : (c : ℕ) (rest : List ℕ) → (c == 92) ≡ false → end_for taken (c ∷ rest) ≡ c ∷ end_for taken rest
  end-other c [] e = refl
  end-other c (d ∷ rest) e = ap (λ b. if b then reference taken (group_of d) d ++ end_for taken rest else c ∷ end_for taken (d ∷ rest)) e

  -- ---- what is added

  pub adds_reference : (old new : List ℕ) (c : ℕ) (rest : List ℕ) → new ≡ old ++ encode_utf8_all (reference taken (group_of c) c) →
      new ++ encode_utf8_all (end_after taken false rest) ≡ old ++ encode_utf8_all (end_after taken true (c ∷ rest))
  adds_reference old new c rest e =
      ap (λ l. l ++ encode_utf8_all (end_for taken rest)) e
      ∙ append_assoc old (encode_utf8_all (reference taken (group_of c) c)) (encode_utf8_all (end_for taken rest))
      ∙ ap (λ l. old ++ l) (sym (encodes-append (reference taken (group_of c) c) (end_for taken rest)))

  pub adds_other : (old new : List ℕ) (c : ℕ) (rest : List ℕ) → (c == 92) ≡ false → new ≡ old ++ encode_utf8_all (c ∷ []) →
      new ++ encode_utf8_all (end_after taken false rest) ≡ old ++ encode_utf8_all (end_after taken false (c ∷ rest))
  adds_other old new c rest other e =
      ap (λ l. l ++ encode_utf8_all (end_for taken rest)) e
      ∙ append_assoc old (encode_utf8_all (c ∷ [])) (encode_utf8_all (end_for taken rest))
      ∙ ap (λ l. old ++ l) (sym (encodes-append (c ∷ []) (end_for taken rest)))
      ∙ ap (λ l. old ++ encode_utf8_all l) (sym (end-other c rest other))

-- whether an end refers back, where a backslash may stand before it
abbrev pub refers_after : Bool → List ℕ → Bool
refers_after false rest = refers rest
refers_after true [] = false
refers_after true (d ∷ rest) = is_some (group_of d) || refers rest

refers_on : (is_escaped : Bool) (c : ℕ) (rest : List ℕ) →
    refers_after is_escaped (c ∷ rest) ≡ ((is_escaped && is_some (group_of c)) || refers_after (not is_escaped && (c == 92)) rest)
refers_on true c rest = refl
refers_on false c [] = go (c == 92)
  where
    go : (b : Bool) → false ≡ refers_after b []
    go true = refl
    go false = refl
refers_on false c (d ∷ rest) = go (c == 92)
  where
    go : (b : Bool) → (if b then is_some (group_of d) || refers rest else refers (d ∷ rest)) ≡ refers_after b (d ∷ rest)
    go true = refl
    go false = refl

or_assoc : (a b c : Bool) → (a || (b || c)) ≡ ((a || b) || c)
or_assoc true b c = refl
or_assoc false b c = refl

pub refers_further : (xs : List ℕ) (c : ℕ) (found is_escaped : Bool) →
    ((rest : List ℕ) → refers (xs ++ rest) ≡ (found || refers_after is_escaped rest)) → (rest : List ℕ) →
    refers ((xs ++ c ∷ []) ++ rest) ≡ ((found || (is_escaped && is_some (group_of c))) || refers_after (not is_escaped && (c == 92)) rest)
refers_further xs c found is_escaped h rest =
    ap refers (append_assoc xs (c ∷ []) rest) ∙ h (c ∷ rest) ∙ ap (λ b. found || b) (refers_on is_escaped c rest)
    ∙ or_assoc found (is_escaped && is_some (group_of c)) (refers_after (not is_escaped && (c == 92)) rest)

pub refers_to_end : (xs : List ℕ) (found is_escaped : Bool) → ((rest : List ℕ) → refers (xs ++ rest) ≡ (found || refers_after is_escaped rest)) →
    found ≡ refers xs
refers_to_end xs found is_escaped h = sym (ap refers (sym (append-nil xs)) ∙ h [] ∙ none is_escaped found)
  where
    none : (b found : Bool) → (found || refers_after b []) ≡ found
    none true true = refl
    none true false = refl
    none false true = refl
    none false false = refl
