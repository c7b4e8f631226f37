-- What holds of every item of a list.
use Rattle.std.proofs.Common.{◌≡◌, ℕ, zero, suc, Bool, true, false, if◌then◌else◌, List, [], ◌∷◌, ◌++◌, take, reverse, map, filter, flat_map, Contains, All, IfSome, slice_get, refl, sym, subst}
use Rattle.std.proofs.lemmas.List.{reverse-append}
use Rattle.std.proofs.lemmas.List.Elements.{All-nil, All-cons, All-contains, All-contains_itself, All-head, All-tail}

pub data Every {A : Type 0} (P : A → Type 0) : List A → Type 0 where
  no_item : Every P []
  item : {x : A} {xs : List A} → P x → Every P xs → Every P (x ∷ xs)

pub every_one : {A : Type 0} {P : A → Type 0} {x : A} → P x → Every P (x ∷ [])
every_one p = item p no_item

pub every_weaker : {A : Type 0} {P Q : A → Type 0} {xs : List A} → ((x : A) → P x → Q x) → Every P xs → Every Q xs
every_weaker k no_item = no_item
every_weaker k (item {x = x} p h) = item (k x p) (every_weaker k h)

pub every_both : {A : Type 0} {P Q R : A → Type 0} {xs : List A} → ((x : A) → P x → Q x → R x) →
    Every P xs → Every Q xs → Every R xs
every_both k no_item h = no_item
every_both k (item {x = x} p h) (item q h') = item (k x p q) (every_both k h h')

pub every_append : {A : Type 0} {P : A → Type 0} {xs ys : List A} → Every P xs → Every P ys → Every P (xs ++ ys)
every_append no_item k = k
every_append (item p h) k = item p (every_append h k)

pub every_flat_map : {A B : Type 0} {P : A → Type 0} {Q : B → Type 0} {xs : List A} (f : A → List B) →
    ((x : A) → P x → Every Q (f x)) → Every P xs → Every Q (flat_map f xs)
every_flat_map f k no_item = no_item
every_flat_map f k (item {x = x} p h) = every_append (k x p) (every_flat_map f k h)

pub every_map : {A B : Type 0} {P : A → Type 0} {Q : B → Type 0} {xs : List A} (f : A → B) → ((x : A) → P x → Q (f x)) →
    Every P xs → Every Q (map f xs)
every_map f k no_item = no_item
every_map f k (item {x = x} p h) = item (k x p) (every_map f k h)

-- where a test chooses between two lists
pub every_if : {A : Type 0} {P : A → Type 0} {xs ys : List A} (b : Bool) → (b ≡ true → Every P xs) → (b ≡ false → Every P ys) →
    Every P (if b then xs else ys)
every_if true h k = h refl
every_if false h k = k refl

-- what a filter keeps passes its test
pub every_filter : {A : Type 0} {P Q : A → Type 0} {xs : List A} (test : A → Bool) → ((x : A) → P x → test x ≡ true → Q x) →
    Every P xs → Every Q (filter test xs)
every_filter test k no_item = no_item
every_filter test k (item {x = x} p h) =
    every_if (test x) (λ e. item (k x p e) (every_filter test k h)) (λ e. every_filter test k h)

pub every_take : {A : Type 0} {P : A → Type 0} {xs : List A} (n : ℕ) → Every P xs → Every P (take n xs)
every_take zero h = no_item
every_take (suc n) no_item = no_item
every_take (suc n) (item p h) = item p (every_take n h)

pub every_anything : {A : Type 0} {P : A → Type 0} (xs : List A) → ((x : A) → P x) → Every P xs
every_anything [] k = no_item
every_anything (x ∷ xs) k = item (k x) (every_anything xs k)

pub every_first : {A : Type 0} {P : A → Type 0} {xs : List A} → Every P xs → IfSome (slice_get xs 0) P
every_first no_item = tt
every_first (item p h) = p

pub every_append_parts : {A : Type 0} {P : A → Type 0} (xs ys : List A) → Every P (xs ++ ys) → Every P xs × Every P ys
every_append_parts [] ys h = (no_item, h)
every_append_parts (x ∷ xs) ys (item p h) = let rest = every_append_parts xs ys h in (item p rest.0, rest.1)

pub every_reverse : {A : Type 0} {P : A → Type 0} {xs : List A} → Every P xs → Every P (reverse xs)
every_reverse no_item = no_item
every_reverse {P} (item {x = x} {xs = xs} p h) =
    subst (Every P) (sym (reverse-append (x ∷ []) xs)) (every_append (every_reverse h) (every_one p))

-- between this and the words of std
pub All-every : {A : Type 0} {P : A → Type 0} {xs : List A} → Every P xs → All P xs
All-every {P} no_item = All-nil P
All-every {P} (item {x = x} {xs = xs} p h) = All-cons P x xs p (All-every h)

pub every-All : {A : Type 0} (P : A → Type 0) (xs : List A) → All P xs → Every P xs
every-All P [] h = no_item
every-All P (x ∷ xs) h = item (All-head P x xs h) (every-All P xs (All-tail P x xs h))

pub every_contained : {A : Type 0} {P : A → Type 0} {xs : List A} (x : A) → Every P xs → Contains xs x → P x
every_contained {P} {xs} x h c = All-contains P xs x (All-every h) c

pub every_contains : {A : Type 0} (xs : List A) → Every (Contains xs) xs
every_contains xs = every-All (Contains xs) xs (All-contains_itself xs)
