-- Two lists that are related item by item.
use Rattle.std.proofs.Common.{◌≡◌, ℕ, zero, suc, Bool, true, false, if◌then◌else◌, List, [], ◌∷◌, ◌++◌, map, filter, take, flat_map, refl, ap₂}
use Rattle.fancy_laws.proofs.Every.{Every, no_item, item}

pub data Pairwise {A B : Type 0} (R : A → B → Type 0) : List A → List B → Type 0 where
  neither : Pairwise R [] []
  both : {x : A} {y : B} {xs : List A} {ys : List B} → R x y → Pairwise R xs ys → Pairwise R (x ∷ xs) (y ∷ ys)

pub pairs_append : {A B : Type 0} {R : A → B → Type 0} {xs xs' : List A} {ys ys' : List B} → Pairwise R xs ys →
    Pairwise R xs' ys' → Pairwise R (xs ++ xs') (ys ++ ys')
pairs_append neither k = k
pairs_append (both r h) k = both r (pairs_append h k)

pub pairs_flat_map : {A B C D : Type 0} {R : A → B → Type 0} {S : C → D → Type 0} {xs : List A} {ys : List B}
    (f : A → List C) (g : B → List D) → ((x : A) (y : B) → R x y → Pairwise S (f x) (g y)) → Pairwise R xs ys →
    Pairwise S (flat_map f xs) (flat_map g ys)
pairs_flat_map f g k neither = neither
pairs_flat_map f g k (both {x = x} {y = y} r h) = pairs_append (k x y r) (pairs_flat_map f g k h)

pub pairs_map : {A B C D : Type 0} {R : A → B → Type 0} {S : C → D → Type 0} {xs : List A} {ys : List B} (f : A → C)
    (g : B → D) → ((x : A) (y : B) → R x y → S (f x) (g y)) → Pairwise R xs ys → Pairwise S (map f xs) (map g ys)
pairs_map f g k neither = neither
pairs_map f g k (both {x = x} {y = y} r h) = both (k x y r) (pairs_map f g k h)

pub pairs_weaken : {A B : Type 0} {R S : A → B → Type 0} {xs : List A} {ys : List B} →
    ((x : A) (y : B) → R x y → S x y) → Pairwise R xs ys → Pairwise S xs ys
pairs_weaken k neither = neither
pairs_weaken k (both {x = x} {y = y} r h) = both (k x y r) (pairs_weaken k h)

-- with what is known of every item of the first
pub pairs_known : {A B : Type 0} {R S : A → B → Type 0} {P : A → Type 0} {xs : List A} {ys : List B} →
    ((x : A) (y : B) → P x → R x y → S x y) → Every P xs → Pairwise R xs ys → Pairwise S xs ys
pairs_known k e neither = neither
pairs_known k (item p e) (both {x = x} {y = y} r h) = both (k x y p r) (pairs_known k e h)

pub pairs_take : {A B : Type 0} {R : A → B → Type 0} {xs : List A} {ys : List B} (n : ℕ) → Pairwise R xs ys → Pairwise R (take n xs) (take n ys)
pairs_take zero h = neither
pairs_take (suc n) neither = neither
pairs_take (suc n) (both r h) = both r (pairs_take n h)

pub pairs_if : {A B : Type 0} {R : A → B → Type 0} {xs xs' : List A} {ys ys' : List B} (b c : Bool) → b ≡ c →
    Pairwise R xs ys → Pairwise R xs' ys' → Pairwise R (if b then xs else xs') (if c then ys else ys')
pairs_if true true e h k = h
pairs_if false false e h k = k
pairs_if true false e h k = cc
pairs_if false true e h k = cc

pub pairs_filter : {A B : Type 0} {R : A → B → Type 0} {xs : List A} {ys : List B} (p : A → Bool) (q : B → Bool) →
    ((x : A) (y : B) → R x y → p x ≡ q y) → Pairwise R xs ys → Pairwise R (filter p xs) (filter q ys)
pairs_filter p q k neither = neither
pairs_filter p q k (both {x = x} {y = y} r h) = pairs_if (p x) (q y) (k x y r) (both r (pairs_filter p q k h)) (pairs_filter p q k h)

-- a list and itself
pub pairs_same : {A : Type 0} {R : A → A → Type 0} {P : A → Type 0} {xs : List A} → ((x : A) → P x → R x x) → Every P xs → Pairwise R xs xs
pairs_same k no_item = neither
pairs_same k (item {x = x} p h) = both (k x p) (pairs_same k h)

-- where what is compared is equal, the lists of it are
pub pairs_equal : {A B C : Type 0} {R : A → B → Type 0} {xs : List A} {ys : List B} (f : A → C) (g : B → C) →
    ((x : A) (y : B) → R x y → f x ≡ g y) → Pairwise R xs ys → map f xs ≡ map g ys
pairs_equal f g k neither = refl
pairs_equal f g k (both {x = x} {y = y} r h) = ap₂ (λ a as'. a ∷ as') (k x y r) (pairs_equal f g k h)

pub equal_pairs : {A B C : Type 0} (f : A → C) (g : B → C) (xs : List A) (ys : List B) → map f xs ≡ map g ys → Pairwise (λ x y. f x ≡ g y) xs ys
equal_pairs f g [] [] e = neither
equal_pairs f g (x ∷ xs) (y ∷ ys) e =
    let one : f x ≡ g y = cc in
    let rest : map f xs ≡ map g ys = cc in
    both one (equal_pairs f g xs ys rest)
equal_pairs f g [] (y ∷ ys) e = cc
equal_pairs f g (x ∷ xs) [] e = cc
