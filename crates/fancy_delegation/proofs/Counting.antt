-- Characters between places: as many characters on from a place there is one place.
use Rattle.std.proofs.Common.{◌≡◌, ℕ, zero, suc, ◌-◌, ◌<◌, ◌≤◌, ◌⊎◌, inl, inr, Bool, true, false, if◌then◌else◌, List, [], ◌∷◌, length, filter, ap, ◌∙◌, arith, leb-true}
use Rattle.std.proofs.lemmas.Bool.{and_parts, cases_order}
use Rattle.fancy_laws.proofs.Characters.{chars_add}
use Rattle.fancy_meaning.specs.Places.{range_from, is_place, chars_between}

pub no_chars : (text : List ℕ) (i j : ℕ) → j ≤ i → chars_between text i j ≡ 0
unfolding chars_between
no_chars text i j le =
    let none : j - i ≡ 0 = omega (arith, le) in
    ap (λ n. length (filter (is_place text) (range_from (suc i) n))) none

-- the character that ends at a place
last_char : (text : List ℕ) (i : ℕ) → is_place text (suc i) ≡ true → 0 < chars_between text i (suc i)
unfolding chars_between
last_char text i e =
    let one : suc i - i ≡ 1 = omega arith in
    let counted : length (filter (is_place text) (range_from (suc i) (suc i - i))) ≡ 1 =
    ap (λ n. length (filter (is_place text) (range_from (suc i) n))) one
    ∙ ap (λ v. length (if v then suc i ∷ [] else [])) e in
    omega (arith, counted)

pub some_chars : (text : List ℕ) (i j : ℕ) → i < j → is_place text j ≡ true → 0 < chars_between text i j
some_chars text i zero lt e = absurd (omega (arith, lt))
some_chars text i (suc j) lt e =
    let sum = chars_add text i j (suc j) (omega (arith, lt)) (omega arith) in
    let last = last_char text j e in
    omega (arith, sum, last)

few_pass : (text : List ℕ) (n i : ℕ) → length (filter (is_place text) (range_from i n)) ≤ n
few_pass text zero i = omega arith
few_pass text (suc n) i = here (is_place text i) (few_pass text n (suc i))
  where
    here : (v : Bool) → length (filter (is_place text) (range_from (suc i) n)) ≤ n →
        length
        (if v then i ∷ filter (is_place text) (range_from (suc i) n) else filter (is_place text)
        (range_from (suc i) n)) ≤ suc n
    here true le = omega (arith, le)
    here false le = omega (arith, le)

pub chars_fit : (text : List ℕ) (i j : ℕ) → chars_between text i j ≤ j
unfolding chars_between
chars_fit text i j = let few = few_pass text (j - i) (suc i) in omega (arith, few)

pub place_within : (text : List ℕ) (i : ℕ) → is_place text i ≡ true → i ≤ length text
place_within text i e = leb-true i (length text) (and_parts _ _ e).0

-- as many characters on, one place
pub same_place : (text : List ℕ) (i j k : ℕ) → i ≤ j → i ≤ k → is_place text j ≡ true → is_place text k ≡ true →
    chars_between text i j ≡ chars_between text i k → j ≡ k
same_place text i j k a b placed placed' e = here (cases_order j k)
  where
    here : (j ≡ k) ⊎ ((j < k) ⊎ (k < j)) → j ≡ k
    here (inr (inl lt)) =
        let sum = chars_add text i j k a (omega (arith, lt)) in
        let more = some_chars text j k lt placed' in
        absurd (omega (arith, e, sum, more))
    here (inl same) = same
    here (inr (inr lt)) =
        let sum = chars_add text i k j b (omega (arith, lt)) in
        let more = some_chars text k j lt placed in
        absurd (omega (arith, e, sum, more))
