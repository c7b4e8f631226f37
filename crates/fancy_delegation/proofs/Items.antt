-- What is an item of a list.
use Rattle.std.proofs.Common.{◌≡◌, zero, suc, List, [], ◌∷◌, ◌++◌, map, flat_map, Contains, filter_map, Option, Some, None, refl, sym, subst, arith, ◌⊎◌, inl, inr, ⊎_elim}
use Rattle.std.specs.List.{cons_option}
use Rattle.fancy_laws.proofs.Every.{Every, no_item, item, every_weaker}

pub data IsIn {A : Type 0} (x : A) : List A → Type 0 where
  first : {xs : List A} → IsIn x (x ∷ xs)
  later : {y : A} {xs : List A} → IsIn x xs → IsIn x (y ∷ xs)

-- hs has items of qs alone
abbrev pub Among : {A : Type 0} → List A → List A → Type 0
Among hs qs = Every (λ h. IsIn h qs) hs

-- ---- items

pub every_is_in : {A : Type 0} {P : A → Type 0} {xs : List A} {x : A} → Every P xs → IsIn x xs → P x
every_is_in no_item i = elim i [ ]
every_is_in (item r h) first = r
every_is_in (item r h) (later i) = every_is_in h i

pub every_itself : {A : Type 0} (xs : List A) → Every (λ x. IsIn x xs) xs
every_itself [] = no_item
every_itself (x ∷ xs) = item first (every_weaker (λ y i. later i) (every_itself xs))

pub every_from : {A : Type 0} {P : A → Type 0} (xs : List A) → ((x : A) → IsIn x xs → P x) → Every P xs
every_from xs k = every_weaker k (every_itself xs)

pub is_in_append_left : {A : Type 0} {x : A} {xs : List A} (ys : List A) → IsIn x xs → IsIn x (xs ++ ys)
is_in_append_left ys first = first
is_in_append_left ys (later i) = later (is_in_append_left ys i)

pub is_in_append_right : {A : Type 0} (xs : List A) {ys : List A} {x : A} → IsIn x ys → IsIn x (xs ++ ys)
is_in_append_right [] i = i
is_in_append_right (y ∷ xs) i = later (is_in_append_right xs i)

pub is_in_append_cases : {A : Type 0} {x : A} (xs : List A) {ys : List A} → IsIn x (xs ++ ys) → IsIn x xs ⊎ IsIn x ys
is_in_append_cases [] i = inr i
is_in_append_cases (y ∷ xs) first = inl first
is_in_append_cases (y ∷ xs) (later i) = ⊎_elim (λ j. inl (later j)) (λ j. inr j) (is_in_append_cases xs i)

pub is_in_flat_map : {A B : Type 0} (f : A → List B) {x : A} {y : B} {xs : List A} → IsIn x xs → IsIn y (f x) → IsIn y (flat_map f xs)
is_in_flat_map f (first {xs = xs}) j = is_in_append_left (flat_map f xs) j
is_in_flat_map f (later {y = y} i) j = is_in_append_right (f y) (is_in_flat_map f i j)

pub is_in_map : {A B : Type 0} (f : A → B) {x : A} {xs : List A} → IsIn x xs → IsIn (f x) (map f xs)
is_in_map f first = first
is_in_map f (later i) = later (is_in_map f i)

pub is_in_filter_map : {A B : Type 0} (h : A → Option B) {x : A} {y : B} {xs : List A} → IsIn x xs → h x ≡ Some y → IsIn y (filter_map h xs)
is_in_filter_map h {y = y} (first {xs = xs}) e = subst (λ o. IsIn y (cons_option o (filter_map h xs))) (sym e) first
is_in_filter_map h {y = y} (later {y = z} {xs = xs} i) e =
    elim (h z) as (λ o. IsIn y (cons_option o (filter_map h xs))) [ None ↦ is_in_filter_map h i e | Some b ↦ later (is_in_filter_map h i e) ]

-- what a filter gives comes from an item
pub from_filter_map : {A B : Type 0} (h : A → Option B) {y : B} (xs : List A) → IsIn y (filter_map h xs) → (x : A) × IsIn x xs × (h x ≡ Some y)
from_filter_map h [] i = elim i [ ]
from_filter_map {A} {B} h {y} (x ∷ xs) i = here (h x) refl i (from_filter_map h xs)
  where
    here : (o : Option B) → h x ≡ o → IsIn y (cons_option o (filter_map h xs)) →
        (IsIn y (filter_map h xs) → (z : A) × IsIn z xs × (h z ≡ Some y)) → (z : A) × IsIn z (x ∷ xs) × (h z ≡ Some y)
    here None e j ih = let found = ih j in (found.0, later found.1, found.2)
    here (Some b) e first ih = (x, first, e)
    here (Some b) e (later j) ih = let found = ih j in (found.0, later found.1, found.2)

-- ---- and the word of std

pub is_in_contained : {A : Type 0} (xs : List A) (x : A) → Contains xs x → IsIn x xs
is_in_contained [] x c = let lt = c.1 in absurd (omega (arith, lt))
is_in_contained (y ∷ xs) x (zero, lt, e) = subst (λ z. IsIn z (y ∷ xs)) e first
is_in_contained (y ∷ xs) x (suc n, lt, e) = later (is_in_contained xs x (n, omega (arith, lt), e))

pub contained_is_in : {A : Type 0} {x : A} {xs : List A} → IsIn x xs → Contains xs x
contained_is_in first = (0, omega arith, refl)
contained_is_in (later i) = let c = contained_is_in i in let lt = c.1 in (suc c.0, omega (arith, lt), c.2)
