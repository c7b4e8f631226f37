-- Sets of the kit that have exactly the characters which nodes take.
use Rattle.std.proofs.Common.{◌≡◌, ℕ, ◌≤◌, Bool, true, false, ◌||◌, ◌&&◌, ◌==◌, List, [], ◌∷◌, Result, Ok, Err, IfOk, refl, sym, ap, ap₂, ◌∙◌, arith, inl, inr, ne_eqb}
use Rattle.std.proofs.lemmas.Bool.{cases_lt}
use Rattle.std.specs.Char.{IsScalar, eq_ignore_ascii_case, to_ascii_lowercase, to_ascii_uppercase}
use Rattle.std.specs.declared.alloc.AllocError.{AllocError}
use Rattle.regex_class.specs.Ranges.{Range, HasExactly, IsCanonical, in_image, in_ranges}
use Rattle.regex_class.proofs.RangesLemmas.{in_ranges-above_max}
use Rattle.regex_class.specs.declared.Class.{Class}
use Rattle.regex_hir.proofs.Utf8Lemmas.{InScalarRange-of_IsScalar}
use Rattle.ucd_case.specs.CaseFolding.{IsFoldPairs}
use Rattle.fancy_meaning.specs.Chars.{fold_equal, literal_takes}
use Rattle.fancy_agreement.specs.First.{IsSameTest}
use Rattle.fancy_agreement.proofs.Exchange.{itself}
use Rattle.fancy_agreement.proofs.SameRanges.{folded_same, letters_same}

pub scalar_bounded : (c : ℕ) → IsScalar c → c ≤ 0x10_FFFF
scalar_bounded c scalar = let range = InScalarRange-of_IsScalar c scalar in grind (arith, range)

pub made_same : (r : Result Class AllocError) (given : List Range) (test : ℕ → Bool) →
    IfOk r (λ class. HasExactly class.ranges.items (in_ranges given)) → ((c : ℕ) → c ≤ 0x10_FFFF → in_ranges given c ≡ test c) →
    IfOk r (λ class. IsSameTest class.ranges.items test)
made_same (Ok class) given test exact same = λ c scalar. exact c (scalar_bounded c scalar) ∙ same c (scalar_bounded c scalar)
made_same (Err e) given test exact same = tt

-- the image goes by the members alone
image_same : (pairs : List (ℕ × ℕ)) (xs ys : List Range) (d : ℕ) → ((c : ℕ) → in_ranges xs c ≡ in_ranges ys c) →
    in_image pairs xs d ≡ in_image pairs ys d
unfolding in_image
image_same [] xs ys d same = refl
image_same (p ∷ ps) xs ys d same = ap₂ (λ a b. (a && (p.1 == d)) || b) (same p.0) (image_same ps xs ys d same)

-- a set of the kit that has the character alone has no number beyond Unicode either
one_same : (one : List Range) (c : ℕ) → c ≤ 0x10_FFFF → IsCanonical one → HasExactly one (in_ranges ((c, c) ∷ [])) → (d : ℕ) →
    in_ranges one d ≡ in_ranges ((c, c) ∷ []) d
one_same one c most canonical exact d = elim (cases_lt 0x10_FFFF d) [
  | inl above ↦ in_ranges-above_max one d canonical above ∙ sym (itself c d ∙ ne_eqb c d (λ e. omega (arith, above, most, e)))
  | inr within ↦ exact d within
]

pub folded_made : (r : Result Class AllocError) (ranges : List Range) (pairs : List (ℕ × ℕ)) (one copied : List Range) (c : ℕ) → c ≤ 0x10_FFFF →
    copied ≡ (c, c) ∷ [] → IsCanonical one → HasExactly one (in_ranges ((c, c) ∷ [])) →
    ((d : ℕ) → in_ranges ranges d ≡ (in_ranges copied d || in_image pairs one d)) → IsFoldPairs pairs →
    IfOk r (λ class. HasExactly class.ranges.items (in_ranges ranges)) → IfOk r (λ class. IsSameTest class.ranges.items (fold_equal c))
folded_made r ranges pairs one copied c most is canonical exact members are made =
    made_same r ranges (fold_equal c) made
    (λ d below. members d
    ∙ ap₂ (λ l b. in_ranges l d || b) is (image_same pairs one ((c, c) ∷ []) d (one_same one c most canonical exact)) ∙ folded_same pairs c d are)

pub letters_made : (r : Result Class AllocError) (c small capital : ℕ) → small ≡ to_ascii_lowercase c → capital ≡ to_ascii_uppercase c →
    IfOk r (λ class. HasExactly class.ranges.items (in_ranges ((c, c) ∷ (small, small) ∷ (capital, capital) ∷ []))) →
    IfOk r (λ class. IsSameTest class.ranges.items (eq_ignore_ascii_case c))
letters_made r c small capital is are made =
    made_same r ((c, c) ∷ (small, small) ∷ (capital, capital) ∷ []) (eq_ignore_ascii_case c) made
    (λ d most. ap₂ (λ a b. in_ranges ((c, c) ∷ (a, a) ∷ (b, b) ∷ []) d) is are ∙ letters_same c d)

-- the character alone
pub one_made : (r : Result Class AllocError) (u casei : Bool) (c : ℕ) → casei ≡ false →
    IfOk r (λ class. HasExactly class.ranges.items (in_ranges ((c, c) ∷ []))) →
    IfOk r (λ class. IsSameTest class.ranges.items (literal_takes u c casei))
one_made r u casei c exact made =
    made_same r ((c, c) ∷ []) (literal_takes u c casei) made
    (λ d most. itself c d ∙ ap (λ b. literal_takes u c b d) (sym exact))

-- folded as the option says
pub folds_made : (r : Result Class AllocError) (u casei : Bool) (c : ℕ) (test : ℕ → Bool) → casei ≡ true →
    ((d : ℕ) → literal_takes u c true d ≡ test d) → IfOk r (λ class. IsSameTest class.ranges.items test) →
    IfOk r (λ class. IsSameTest class.ranges.items (literal_takes u c casei))
folds_made (Ok class) u casei c test folds same made = λ d scalar.
    made d scalar ∙ sym (same d) ∙ ap (λ b. literal_takes u c b d) (sym folds)
folds_made (Err e) u casei c test folds same made = tt
