-- The first characters and bad sequences of some bytes.
use Rattle.std.proofs.Common.{◌≡◌, ◌+◌, ℕ, suc, zero, List, [], ◌∷◌, length, drop, refl, sym, ap, ◌∙◌, arith}
use Rattle.bstr.specs.Utf8.{Decoded, spans_from}
use Rattle.fancy_input.specs.Pieces.{length_up_to}

-- What is left of the pieces from a byte on: n more of them end at the byte `total`.
pub record Left (left : List (ℕ × ℕ × ℕ)) (end n total : ℕ) : Type 0 where
  pub rest : List Decoded
  pub spans : left ≡ spans_from end rest
  pub sum : end + length_up_to n rest ≡ total

end_of_first : List (ℕ × ℕ × ℕ) → ℕ
end_of_first [] = 0
end_of_first (s ∷ ss) = s.1

goes_on_at : (rest : List Decoded) (end n total : ℕ) (x : ℕ × ℕ × ℕ) (new : List (ℕ × ℕ × ℕ)) →
    spans_from end rest ≡ x ∷ new → end + length_up_to (suc n) rest ≡ total → Left new x.1 n total
unfolding spans_from end_of_first
goes_on_at [] end n total x new e h = absurd (omega (arith, ap length e))
goes_on_at (p ∷ ps) end n total x new e h =
    let first : end + p.size ≡ x.1 = ap end_of_first e in record {
      rest = ps;
      spans = sym (ap (drop 1) e) ∙ ap (λ m. spans_from m ps) first;
      sum = omega (arith, first, h);
    }

pub goes_on : (left : List (ℕ × ℕ × ℕ)) (end n total : ℕ) (x : ℕ × ℕ × ℕ) (new : List (ℕ × ℕ × ℕ)) →
    Left left end (suc n) total → left ≡ x ∷ new → Left new x.1 n total
goes_on left end n total x new h e = goes_on_at h.rest end n total x new (sym h.spans ∙ e) h.sum

up_to_none : (n : ℕ) → length_up_to n [] ≡ 0
up_to_none zero = refl
up_to_none (suc n) = refl

no_rest : (rest : List Decoded) (end : ℕ) → spans_from end rest ≡ [] → rest ≡ []
unfolding spans_from
no_rest [] end e = refl
no_rest (p ∷ ps) end e = absurd (omega (arith, ap length e))

pub stays : (left new : List (ℕ × ℕ × ℕ)) (end n total : ℕ) → Left left end (suc n) total → left ≡ [] → new ≡ [] → Left new end n total
stays left new end n total h none still =
    let over : h.rest ≡ [] = no_rest h.rest end (sym h.spans ∙ none) in
    let here : end ≡ total = omega (arith, h.sum, ap (length_up_to (suc n)) over) in record {
      rest = h.rest;
      spans = still ∙ sym none ∙ h.spans;
      sum = omega (arith, here, ap (length_up_to n) over, up_to_none n);
    }
