-- Where the first passes, and how many do, in a list that is mapped.
use Rattle.std.proofs.Common.{◌≡◌, ℕ, zero, suc, ◌+◌, Bool, not, List, [], ◌∷◌, map, take, Some, None, nat_lt, if◌then◌else◌, refl, sym, ap, ap₂, ◌∙◌}
use Rattle.std.proofs.lemmas.List.{length-map}
use Rattle.std.proofs.lemmas.List.Sums.{sum_by-cons}
use Rattle.std.specs.List.{count_by, position, position_or_len}

module _ {A B : Type 0} (g : A → B) (p : B → Bool) where
  or_len : (xs : List A) → position_or_len p (map g xs) ≡ position_or_len (λ x. p (g x)) xs
  or_len [] = refl
  or_len (x ∷ xs) = ap (λ n. if not (p (g x)) then 1 + n else 0) (or_len xs)

  pub position_map : (xs : List A) → position p (map g xs) ≡ position (λ x. p (g x)) xs
  position_map xs = ap₂ (λ n m. if nat_lt n m then Some n else None) (or_len xs) (length-map xs g)

  pub count_map : (xs : List A) → count_by p (map g xs) ≡ count_by (λ x. p (g x)) xs
  count_map [] = refl
  count_map (x ∷ xs) =
      sum_by-cons (λ y. if p y then 1 else 0) (g x) (map g xs) ∙ ap (λ n. (if p (g x) then 1 else 0) + n) (count_map xs)
      ∙ sym (sum_by-cons (λ y. if p (g y) then 1 else 0) x xs)

pub take_map : {A B : Type 0} (g : A → B) (n : ℕ) (xs : List A) → map g (take n xs) ≡ take n (map g xs)
take_map g zero xs = refl
take_map g (suc n) [] = refl
take_map g (suc n) (x ∷ xs) = ap (λ l. g x ∷ l) (take_map g n xs)
