-- Lists in which every test that respects a key finds the same first item.
use Rattle.std.proofs.Common.{◌≡◌, Bool, true, false, if◌then◌else◌, List, [], ◌∷◌, ◌++◌, map, flat_map, take, Option, Some, None, is_some, slice_get, refl, sym, ap, ap₂, ◌∙◌}
use Rattle.fancy_laws.proofs.Every.{Every, no_item, item}
use Rattle.fancy_delegation.proofs.Pairwise.{Pairwise, neither, both}

abbrev pub find_first : {A : Type 0} → (A → Bool) → List A → Option A
find_first p [] = None
find_first p (x ∷ xs) = if p x then Some x else find_first p xs

abbrev or_other : {A : Type 0} → Option A → Option A → Option A
or_other None o = o
or_other (Some x) o = Some x

abbrev and_then : {A B : Type 0} → Option A → (A → Option B) → Option B
and_then None f = None
and_then (Some x) f = f x

abbrev mapped : {A B : Type 0} → (A → B) → Option A → Option B
mapped f None = None
mapped f (Some x) = Some (f x)

-- the test does not tell apart what the key does not
abbrev pub RespectsKey : {A : Type 0} → (A → A → Type 0) → (A → Bool) → Type 0
RespectsKey {A} key p = (x y : A) → key x y → p x ≡ p y

pub record FindsAlike {A : Type 0} (key : A → A → Type 0) (hs qs : List A) : Type 0 where
  pub by : (p : A → Bool) → RespectsKey key p → find_first p hs ≡ find_first p qs

-- ---- finding

find-append : {A : Type 0} (p : A → Bool) (xs ys : List A) → find_first p (xs ++ ys) ≡ or_other (find_first p xs) (find_first p ys)
find-append p [] ys = refl
find-append {A} p (x ∷ xs) ys = here (p x) (find-append p xs ys)
  where
    here : (v : Bool) → find_first p (xs ++ ys) ≡ or_other (find_first p xs) (find_first p ys) →
        ◌≡◌ {A = Option A} (if v then Some x else find_first p (xs ++ ys))
        (or_other (if v then Some x else find_first p xs) (find_first p ys))
    here true ih = refl
    here false ih = ih

find-map : {A B : Type 0} (p : B → Bool) (f : A → B) (xs : List A) → find_first p (map f xs) ≡ mapped f (find_first (λ x. p (f x)) xs)
find-map p f [] = refl
find-map {A} {B} p f (x ∷ xs) = here (p (f x)) (find-map p f xs)
  where
    here : (v : Bool) → find_first p (map f xs) ≡ mapped f (find_first (λ y. p (f y)) xs) →
        ◌≡◌ {A = Option B} (if v then Some (f x) else find_first p (map f xs))
        (mapped f (if v then Some x else find_first (λ y. p (f y)) xs))
    here true ih = refl
    here false ih = ih

find-flat_map : {A B : Type 0} (p : B → Bool) (f : A → List B) (xs : List A) →
    find_first p (flat_map f xs) ≡ and_then (find_first (λ x. is_some (find_first p (f x))) xs)
    (λ x. find_first p (f x))
find-flat_map p f [] = refl
find-flat_map {A} {B} p f (x ∷ xs) = find-append p (f x) (flat_map f xs) ∙ here (find_first p (f x)) refl (find-flat_map p f xs)
  where
    rest : Option A
    rest = find_first (λ y. is_some (find_first p (f y))) xs

    here : (o : Option B) → find_first p (f x) ≡ o →
        find_first p (flat_map f xs) ≡ and_then rest (λ y. find_first p (f y)) →
        or_other o (find_first p (flat_map f xs)) ≡ and_then (if is_some o then Some x else rest)
        (λ y. find_first p (f y))
    here None e ih = ih
    here (Some y) e ih = sym e

find-flat_map_alike : {A B : Type 0} {P : A → Type 0} (p : B → Bool) (k f : A → List B) (xs : List A) →
    ((x : A) → P x → find_first p (k x) ≡ find_first p (f x)) → Every P xs →
    find_first p (flat_map k xs) ≡ find_first p (flat_map f xs)
find-flat_map_alike p k f [] e no_item = refl
find-flat_map_alike p k f (x ∷ xs) e (item r rs) =
    find-append p (k x) (flat_map k xs) ∙ ap₂ or_other (e x r) (find-flat_map_alike p k f xs e rs)
    ∙ sym (find-append p (f x) (flat_map f xs))

-- a test that respects the key finds something in both or in neither
found_in_pairs : {A : Type 0} {key : A → A → Type 0} {xs ys : List A} (p : A → Bool) → RespectsKey key p →
    Pairwise key xs ys → is_some (find_first p xs) ≡ is_some (find_first p ys)
found_in_pairs p ok neither = refl
found_in_pairs {A} p ok (both {x = x} {y = y} {xs = xs} {ys = ys} r h) = here (p x) (p y) (ok x y r) (found_in_pairs p ok h)
  where
    here : (u v : Bool) → u ≡ v → is_some (find_first p xs) ≡ is_some (find_first p ys) →
        is_some (if u then Some x else find_first p xs) ≡ is_some (if v then Some y else find_first p ys)
    here true true e ih = refl
    here false false e ih = ih
    here true false e ih = cc
    here false true e ih = cc

-- ---- the laws

pub alike_same : {A : Type 0} {key : A → A → Type 0} {xs : List A} → FindsAlike key xs xs
alike_same = record { by = λ p ok. refl }

pub alike_equal : {A : Type 0} {key : A → A → Type 0} {hs qs : List A} → hs ≡ qs → FindsAlike key hs qs
alike_equal e = record { by = λ p ok. ap (find_first p) e }

pub alike_trans : {A : Type 0} {key : A → A → Type 0} {xs ys zs : List A} → FindsAlike key xs ys → FindsAlike key ys zs → FindsAlike key xs zs
alike_trans h k = record { by = λ p ok. h.by p ok ∙ k.by p ok }

-- what a finer key does not tell apart, a coarser one does not
pub alike_coarser : {A : Type 0} {fine coarse : A → A → Type 0} {hs qs : List A} →
    ((x y : A) → fine x y → coarse x y) → FindsAlike fine hs qs → FindsAlike coarse hs qs
alike_coarser c t = record { by = λ p ok. t.by p (λ x y h. ok x y (c x y h)) }

pub alike_append : {A : Type 0} {key : A → A → Type 0} (hs qs hs' qs' : List A) → FindsAlike key hs qs →
    FindsAlike key hs' qs' → FindsAlike key (hs ++ hs') (qs ++ qs')
alike_append hs qs hs' qs' t u = record { by = λ p ok. find-append p hs hs' ∙ ap₂ or_other (t.by p ok) (u.by p ok) ∙ sym (find-append p qs qs') }

pub alike_map : {A B : Type 0} {key : A → A → Type 0} {key' : B → B → Type 0} (f : A → B) (hs qs : List A) →
    ((x y : A) → key x y → key' (f x) (f y)) → FindsAlike key hs qs → FindsAlike key' (map f hs) (map f qs)
alike_map f hs qs c t =
    record {
      by = λ p ok. find-map p f hs ∙ ap (mapped f) (t.by (λ x. p (f x)) (λ x y h. ok (f x) (f y) (c x y h)))
          ∙ sym (find-map p f qs);
    }

-- binding, where P holds of each of the first list
pub alike_flat_map : {A B : Type 0} {P : A → Type 0} {key : A → A → Type 0} {key' : B → B → Type 0} (k f : A → List B)
    (hs qs : List A) → ((x y : A) → key x y → Pairwise key' (f x) (f y)) →
    ((x : A) → P x → FindsAlike key' (k x) (f x)) → Every P hs → FindsAlike key hs qs →
    FindsAlike key' (flat_map k hs) (flat_map f qs)
alike_flat_map k f hs qs respects each known t = record {
  by = λ p ok.
      find-flat_map_alike p k f hs (λ x r. (each x r).by p ok) known
      ∙ find-flat_map p f hs
      ∙ ap (λ o. and_then o (λ x. find_first p (f x))) (t.by (λ x. is_some (find_first p (f x))) (λ x y h. found_in_pairs p ok (respects x y h)))
      ∙ sym (find-flat_map p f qs);
}

-- ---- the first item

find_all : {A : Type 0} (xs : List A) → find_first (λ x. true) xs ≡ slice_get xs 0
find_all [] = refl
find_all (x ∷ xs) = refl

-- both are empty, or have the same first item
pub alike_head : {A : Type 0} {key : A → A → Type 0} {hs qs : List A} → FindsAlike key hs qs → slice_get hs 0 ≡ slice_get qs 0
alike_head {hs = hs} {qs = qs} t = sym (find_all hs) ∙ t.by (λ x. true) (λ x y h. refl) ∙ find_all qs

nothing_found : {A : Type 0} {key : A → A → Type 0} (p : A → Bool) → RespectsKey key p → (x : A) {xs : List A} →
    Every (key x) xs → p x ≡ false → find_first p xs ≡ None
nothing_found p ok x no_item e = refl
nothing_found {A} p ok x (item {x = y} {xs = ys} k h) e =
    ap (λ v. if v then Some y else find_first p ys) (sym (ok x y k) ∙ e) ∙ nothing_found p ok x h e

-- the first alone, where every item has one key
pub alike_first : {A : Type 0} {key : A → A → Type 0} (x : A) {xs : List A} → Every (key x) xs → FindsAlike key (take 1 xs) xs
alike_first x no_item = alike_same
alike_first {A} {key} x (item {x = y} {xs = ys} k h) = record { by = λ p ok. here p (p y) (λ e. nothing_found p ok x h (ok x y k ∙ e)) refl }
  where
    here : (p : A → Bool) (v : Bool) → (p y ≡ false → find_first p ys ≡ None) → p y ≡ v →
        ◌≡◌ {A = Option A} (if v then Some y else None) (if v then Some y else find_first p ys)
    here p true rest e = refl
    here p false rest e = sym (rest e)
