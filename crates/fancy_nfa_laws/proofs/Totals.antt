-- What the items of a list weigh together: different items of another list at most what that one weighs.
use Rattle.std.proofs.Common.{◌≡◌, ◌≤◌, ◌⊎◌, inl, inr, ℕ, ◌+◌, ◌*◌, List, [], ◌∷◌, ◌++◌, length, map, refl, sym, subst, arith}
use Rattle.fancy_laws.proofs.Every.{Every, no_item, item, every_both}
use Rattle.fancy_delegation.proofs.Items.{IsIn, first, later}

-- no item comes twice
abbrev pub Distinct : {A : Type 0} → List A → Type 0
Distinct [] = Unit {0}
Distinct (x ∷ xs) = Every (λ y. x ≡ y → ⊥) xs × Distinct xs

abbrev pub total_by : {A : Type 0} → (A → ℕ) → List A → ℕ
total_by w [] = 0
total_by w (x ∷ xs) = w x + total_by w xs

pub total_by-append : {A : Type 0} (w : A → ℕ) (xs ys : List A) → total_by w (xs ++ ys) ≡ total_by w xs + total_by w ys
total_by-append w [] ys = omega arith
total_by-append w (x ∷ xs) ys = let rest = total_by-append w xs ys in omega (arith, rest)

-- all of one weight
pub total_by-same : {A B : Type 0} (w : B → ℕ) (f : A → B) (n : ℕ) (xs : List A) → ((x : A) → w (f x) ≡ n) →
    total_by w (map f xs) ≡ length xs * n
total_by-same w f n [] h = omega arith
total_by-same w f n (x ∷ xs) h =
    let one = h x in
    let rest = total_by-same w f n xs h in
    omega (arith, one, rest)

-- a list without one of its items
record Without {A : Type 0} (w : A → ℕ) (x : A) (ys : List A) : Type 0 where
  rest : List A
  sum : total_by w ys ≡ w x + total_by w rest
  others : (z : A) → IsIn z ys → (z ≡ x) ⊎ IsIn z rest

first_or_later : {A : Type 0} {z x : A} {ys : List A} → IsIn z (x ∷ ys) → (z ≡ x) ⊎ IsIn z ys
first_or_later first = inl refl
first_or_later (later i) = inr i

without : {A : Type 0} (w : A → ℕ) {x : A} {ys : List A} → IsIn x ys → Without w x ys
without w (first {xs = ys}) = record { rest = ys; sum = refl; others = λ z i. first_or_later i }
without w {x = x} (later {y = y} {xs = ys} h) =
    let less = without w h in
    let sum : total_by w ys ≡ w x + total_by w less.rest = less.sum in
    record {
      rest = y ∷ less.rest;
      sum = omega (arith, sum);
      others = λ z i. elim (first_or_later i) [
        | inl e ↦ inr (subst (λ v. IsIn z (v ∷ less.rest)) e first)
        | inr j ↦ elim (less.others z j) [ inl e ↦ inl e | inr k ↦ inr (later k) ]
      ];
    }

second_of : {A B : Type 0} → A ⊎ B → (A → ⊥) → B
second_of (inl x) n = absurd (n x)
second_of (inr y) n = y

pub total_by-among : {A : Type 0} (w : A → ℕ) (xs ys : List A) → Distinct xs → Every (λ x. IsIn x ys) xs →
    total_by w xs ≤ total_by w ys
total_by-among w [] ys d no_item = omega arith
total_by-among w (x ∷ xs) ys d (item i h) =
    let less = without w i in
    let sum : total_by w ys ≡ w x + total_by w less.rest = less.sum in
    let le = total_by-among w xs less.rest d.1 (every_both (λ z apart j. second_of (less.others z j) (λ e. apart (sym e))) d.0 h) in
    omega (arith, sum, le)
