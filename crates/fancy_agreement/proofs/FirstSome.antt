-- The first success over a list, and over the lists from which it is made.
use Rattle.std.proofs.Common.{◌≡◌, Bool, true, false, List, [], ◌∷◌, ◌++◌, map, flat_map, Option, Some, None, IsSome, if◌then◌else◌, refl, sym, ap, ap₂, ◌∙◌}
use Rattle.std.proofs.lemmas.Option.{none-some}
use Rattle.std.specs.Option.{option_or}
use Rattle.regex_hir.proofs.OptionLemmas.{option_or-None, option_or_assoc, IsSome-option_or_left, IsSome-option_or_right}
use Rattle.fancy_laws.proofs.Every.{Every, no_item, item, every_weaker}
use Rattle.fancy_agreement.specs.First.{first_some}

module _ {A B : Type 0} where
  pub first_one : (f : A → Option B) (x : A) → first_some f (x ∷ []) ≡ f x
  first_one f x = option_or-None (f x)

  pub first_append : (f : A → Option B) (xs ys : List A) →
      first_some f (xs ++ ys) ≡ option_or (first_some f xs) (first_some f ys)
  first_append f [] ys = refl
  first_append f (x ∷ xs) ys =
      ap (option_or (f x)) (first_append f xs ys) ∙ sym (option_or_assoc (f x) (first_some f xs) (first_some f ys))

  pub first_same : (f g : A → Option B) (xs : List A) → Every (λ x. f x ≡ g x) xs → first_some f xs ≡ first_some g xs
  first_same f g [] h = refl
  first_same f g (x ∷ xs) (item e h) = ap₂ option_or e (first_same f g xs h)

pub first_map : {A B C : Type 0} (f : B → Option C) (g : A → B) (xs : List A) →
    first_some f (map g xs) ≡ first_some (λ x. f (g x)) xs
first_map f g [] = refl
first_map f g (x ∷ xs) = ap (option_or (f (g x))) (first_map f g xs)

pub first_flat_map : {A B C : Type 0} (f : B → Option C) (g : A → List B) (xs : List A) →
    first_some f (flat_map g xs) ≡ first_some (λ x. first_some f (g x)) xs
first_flat_map f g [] = refl
first_flat_map f g (x ∷ xs) =
    first_append f (g x) (flat_map g xs) ∙ ap (option_or (first_some f (g x))) (first_flat_map f g xs)

-- a test for each item that the item itself passes succeeds somewhere
pub each_found : {A B : Type 0} (test : A → A → Option B) → ((x : A) → IsSome (test x x)) → (xs : List A) →
    Every (λ x. IsSome (first_some (test x) xs)) xs
each_found test passes [] = no_item
each_found test passes (x ∷ xs) =
    item (IsSome-option_or_left (test x x) (first_some (test x) xs) (passes x))
    (every_weaker (λ y found. IsSome-option_or_right (test y x) (first_some (test y) xs) found) (each_found test passes xs))

-- the first of the two that is there, whichever comes first
abbrev pub pick : {B : Type 0} → Bool → Option B → Option B → Option B
pick first a b = if first then option_or a b else option_or b a

-- ---- items that a test tells apart: the rest all give the same

module _ {A B : Type 0} (test : A → Bool) (f : A → Option B) where
  -- what f gives of an item that passes, and c of the others
  abbrev pub or_else : Option B → A → Option B
  or_else c x = if test x then f x else c

  -- where no item that passes gives a value, c is left
  pub others_left : (c : Option B) (xs : List A) → first_some (or_else None) xs ≡ None →
      option_or (first_some (or_else c) xs) c ≡ c
  others_left None xs e = option_or-None (first_some (or_else None) xs) ∙ e
  others_left (Some v) [] e = refl
  others_left (Some v) (x ∷ xs) e = step (test x) (f x) e (others_left (Some v) xs)
    where
      step : (b : Bool) (o : Option B) → option_or (if b then o else None) (first_some (or_else None) xs) ≡ None →
          (first_some (or_else None) xs ≡ None → option_or (first_some (or_else (Some v)) xs) (Some v) ≡ Some v) →
          option_or (option_or (if b then o else Some v) (first_some (or_else (Some v)) xs)) (Some v) ≡ Some v
      step false o h k = refl
      step true None h k = k h
      step true (Some w) h k = absurd (none-some w (sym h))

  -- the value of one that passes
  pub one_passes : (v : B) (xs : List A) → first_some (or_else None) xs ≡ Some v → first_some (or_else (Some v)) xs ≡ Some v
  one_passes v [] e = absurd (none-some v e)
  one_passes v (x ∷ xs) e = step (test x) (f x) e (one_passes v xs)
    where
      step : (b : Bool) (o : Option B) → option_or (if b then o else None) (first_some (or_else None) xs) ≡ Some v →
          (first_some (or_else None) xs ≡ Some v → first_some (or_else (Some v)) xs ≡ Some v) →
          option_or (if b then o else Some v) (first_some (or_else (Some v)) xs) ≡ Some v
      step false o h k = refl
      step true None h k = k h
      step true (Some w) h k = h

  -- what passes gives the same value where the others give c
  abbrev pub Gives : List A → Option B → Type 0
  Gives xs c = (v : B) → first_some (or_else None) xs ≡ Some v → first_some (or_else c) xs ≡ Some v

  -- Whether the others give c or nothing, where c comes after all.
  pub others_skipped : (greedy : Bool) (c : Option B) (xs : List A) → (greedy ≡ true → Gives xs c) →
      pick greedy (first_some (or_else None) xs) c ≡ pick greedy (first_some (or_else c) xs) c
  others_skipped false None xs p = refl
  others_skipped false (Some v) xs p = refl
  others_skipped true c xs p = go (first_some (or_else None) xs) refl
    where
      go : (o : Option B) → first_some (or_else None) xs ≡ o →
          option_or (first_some (or_else None) xs) c ≡ option_or (first_some (or_else c) xs) c
      go None e = ap (λ o. option_or o c) e ∙ sym (others_left c xs e)
      go (Some v) e = ap (λ o. option_or o c) (e ∙ sym (p refl v e))

  -- whether the others give c, or all once more and then c
  pub others_again : (greedy : Bool) (c : Option B) (xs : List A) → (greedy ≡ true → Gives xs c) →
      first_some (or_else c) xs ≡ first_some (or_else (pick greedy (first_some (or_else None) xs) c)) xs
  others_again greedy c xs p = go greedy (first_some (or_else None) xs) refl c p
    where
      go : (g : Bool) (o : Option B) → first_some (or_else None) xs ≡ o → (d : Option B) → (g ≡ true → Gives xs d) →
          first_some (or_else d) xs ≡ first_some (or_else (pick g (first_some (or_else None) xs) d)) xs
      go true None e d p = ap (λ o. first_some (or_else (option_or o d)) xs) (sym e)
      go true (Some v) e d p =
          p refl v e ∙ sym (one_passes v xs e) ∙ ap (λ o. first_some (or_else (option_or o d)) xs) (sym e)
      go false o e (Some w) p = refl
      go false None e None p = ap (λ o. first_some (or_else o) xs) (sym e)
      go false (Some v) e None p = e ∙ sym (one_passes v xs e) ∙ ap (λ o. first_some (or_else o) xs) (sym e)
