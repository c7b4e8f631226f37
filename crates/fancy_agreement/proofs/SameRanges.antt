-- Ranges that have exactly the characters of a test: the kit reads characters, folded or not, as nodes do.
use Rattle.std.proofs.Common.{◌≡◌, ℕ, zero, suc, ◌<◌, ◌≤◌, Bool, true, false, ◌||◌, ◌&&◌, ◌==◌, List, [], ◌∷◌, length, Contains, slice_index_or, ◌⊎◌, refl, sym, ap, ◌∙◌, inl, inr, eqb-true, eq-eqb, arith}
use Rattle.std.proofs.lemmas.Bool.{and_from, and_parts, cases_eq, or_left, or_right, or_cases, false≢true}
use Rattle.std.proofs.lemmas.Bool.Decides.{nat_tests}
use Rattle.std.specs.Char.{eq_ignore_ascii_case, to_ascii_lowercase, to_ascii_uppercase}
use Rattle.regex_class.specs.Ranges.{Range, in_image, in_range, in_ranges}
use Rattle.ucd_case.specs.CaseFolding.{IsFoldPairs, simple_fold}
use Rattle.fancy_meaning.specs.Chars.{any_takes, fold_equal}
use Rattle.fancy_agreement.proofs.Exchange.{itself}

same_bools : (x y : Bool) → (x ≡ true → y ≡ true) → (y ≡ true → x ≡ true) → x ≡ y
same_bools true y f g = sym (f refl)
same_bools false true f g = g refl
same_bools false false f g = refl

-- ---- folding

image_at : (ps : List (ℕ × ℕ)) (rs : List Range) (k a d : ℕ) → k < length ps → slice_index_or ps k (a, d) ≡ (a, d) →
    in_ranges rs a ≡ true → in_image ps rs d ≡ true
unfolding in_image
image_at [] rs k a d lt at has = absurd (omega arith)
image_at (p ∷ ps) rs zero a d lt at has =
    or_left _ _ (and_from _ _ (ap (λ (r : ℕ × ℕ). in_ranges rs r.0) at ∙ has) (eq-eqb p.1 d (ap (λ (r : ℕ × ℕ). r.1) at)))
image_at (p ∷ ps) rs (suc k) a d lt at has = or_right _ _ (image_at ps rs k a d (omega arith) at has)

image_from : (ps : List (ℕ × ℕ)) (rs : List Range) (d : ℕ) → in_image ps rs d ≡ true →
    (a : ℕ) × (in_ranges rs a ≡ true) × Contains ps (a, d)
unfolding in_image
image_from [] rs d e = absurd (false≢true e)
image_from (p ∷ ps) rs d e = step (or_cases (in_ranges rs p.0 && (p.1 == d)) (in_image ps rs d) e) (image_from ps rs d)
  where
    step : ((in_ranges rs p.0 && (p.1 == d)) ≡ true) ⊎ (in_image ps rs d ≡ true) →
        (in_image ps rs d ≡ true → (a : ℕ) × (in_ranges rs a ≡ true) × Contains ps (a, d)) →
        (a : ℕ) × (in_ranges rs a ≡ true) × Contains (p ∷ ps) (a, d)
    step (inl here) later =
        let both = and_parts (in_ranges rs p.0) (p.1 == d) here in
        (p.0, both.0, (zero, omega arith, ap (λ (x : ℕ). (p.0, x)) (eqb-true p.1 d both.1)))
    step (inr there) later =
        let rest = later there in
        (rest.0, rest.1, (suc rest.2.0, omega (arith, rest.2.1), rest.2.2))

pub folded_same : (pairs : List (ℕ × ℕ)) (c d : ℕ) → IsFoldPairs pairs →
    (in_ranges ((c, c) ∷ []) d || in_image pairs ((c, c) ∷ []) d) ≡ fold_equal c d
unfolding fold_equal
folded_same pairs c d are = same_bools _ _
    (λ e. elim (or_cases (in_ranges ((c, c) ∷ []) d) (in_image pairs ((c, c) ∷ []) d) e) [
      | inl one ↦ eq-eqb (simple_fold c) (simple_fold d) (ap simple_fold (eqb-true c d (sym (itself c d) ∙ one)))
      | inr image ↦
          let from = image_from pairs ((c, c) ∷ []) d image in
          let same : c ≡ from.0 = eqb-true c from.0 (sym (itself c from.0) ∙ from.1) in
          eq-eqb (simple_fold c) (simple_fold d) (ap simple_fold same ∙ ((are from.0 d).0 from.2).1)
    ])
    (λ e. elim (cases_eq c d) [
      | inl one ↦ or_left _ _ (itself c d ∙ eq-eqb c d one)
      | inr other ↦
          or_right _ _ (let pair = (are c d).1 (other, eqb-true (simple_fold c) (simple_fold d) e) in
          image_at pairs ((c, c) ∷ []) pair.0 c d pair.1 pair.2 (itself c c ∙ eq-eqb c c refl))
    ])

-- ---- ASCII letters

pub letters_same : (c d : ℕ) →
    in_ranges ((c, c) ∷ (to_ascii_lowercase c, to_ascii_lowercase c) ∷ (to_ascii_uppercase c, to_ascii_uppercase c) ∷ []) d
    ≡ eq_ignore_ascii_case c d
unfolding in_ranges in_range
letters_same c d = grind (arith, nat_tests)

-- ---- any character

pub any_same : (crlf : Bool) (c : ℕ) → c ≤ 0x10_FFFF → in_ranges ((0, 0x10_FFFF) ∷ []) c ≡ any_takes true crlf c
unfolding in_ranges in_range
any_same crlf c most = grind (arith, nat_tests)

pub line_same : (c : ℕ) → c ≤ 0x10_FFFF → in_ranges ((0, 9) ∷ (11, 0x10_FFFF) ∷ []) c ≡ any_takes false false c
unfolding in_ranges in_range
line_same c most = grind (arith, nat_tests)

pub crlf_line_same : (c : ℕ) → c ≤ 0x10_FFFF → in_ranges ((0, 9) ∷ (11, 12) ∷ (14, 0x10_FFFF) ∷ []) c ≡ any_takes false true c
unfolding in_ranges in_range
crlf_line_same c most = grind (arith, nat_tests)
