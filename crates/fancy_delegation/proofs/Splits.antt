-- What passes the tests of a list that is cut in three.
use Rattle.std.proofs.Common.{◌≡◌, suc, ◌+◌, Bool, true, false, if◌then◌else◌, List, [], ◌∷◌, take, reverse, take_while, refl, subst, arith}
use Rattle.std.specs.List.{prefix_len}
use Rattle.fancy_laws.proofs.Splits.{back_while}
use Rattle.fancy_laws.proofs.Every.{Every, no_item, item, every_reverse}

module _ {A : Type 0} where
  pub front_passes : (test : A → Bool) (xs : List A) → Every (λ x. test x ≡ true) (take_while test xs)
  front_passes test [] = no_item
  front_passes test (x ∷ xs) = here (test x) refl (front_passes test xs)
    where
      here : (v : Bool) → test x ≡ v → Every (λ y. test y ≡ true) (take_while test xs) →
          Every (λ y. test y ≡ true) (take (if v then 1 + prefix_len test xs else 0) (x ∷ xs))
      here true e h =
          let one : suc (prefix_len test xs) ≡ 1 + prefix_len test xs = omega arith in
          subst (λ n. Every (λ y. test y ≡ true) (take n (x ∷ xs))) one (item e h)
      here false e h = no_item

  pub back_passes : (test : A → Bool) (xs : List A) → Every (λ x. test x ≡ true) (back_while test xs)
  back_passes test xs = every_reverse (front_passes test (reverse xs))
