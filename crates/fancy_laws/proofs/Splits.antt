-- A list cut into its longest front of items that pass one test, its longest back of those of the rest that pass another,
-- and what stands between.
use Rattle.std.proofs.Common.{◌≡◌, ℕ, zero, suc, ◌-◌, Bool, List, [], ◌∷◌, ◌++◌, length, take, drop, reverse, take_while, refl, sym, ap, ap₂, ◌∙◌, arith, length-append}
use Rattle.std.specs.List.{prefix_len}
use Rattle.std.proofs.lemmas.List.{take-append-drop, reverse-append, reverse-reverse}
use Rattle.std.proofs.Math.Seq.{take-append_seam}

module _ {A : Type 0} where
  taken_again : (n : ℕ) (xs : List A) → take (length (take n xs)) xs ≡ take n xs
  taken_again zero xs = refl
  taken_again (suc n) [] = refl
  taken_again (suc n) (x ∷ xs) = ap (λ l. x ∷ l) (taken_again n xs)

  front_and_rest : (test : A → Bool) (xs : List A) → take_while test xs ++ drop (length (take_while test xs)) xs ≡ xs
  front_and_rest test xs =
      ap (λ l. l ++ drop (length (take_while test xs)) xs) (sym (taken_again (prefix_len test xs) xs))
      ∙ take-append-drop (length (take_while test xs)) xs

  -- the longest back
  abbrev pub back_while : (A → Bool) → List A → List A
  back_while test xs = reverse (take_while test (reverse xs))

  -- what stands before it
  abbrev pub before_back : (A → Bool) → List A → List A
  before_back test xs = take (length xs - length (back_while test xs)) xs

  before_and_back : (test : A → Bool) (xs : List A) → before_back test xs ++ back_while test xs ≡ xs
  before_and_back test xs =
      let tail = take_while test (reverse xs) in
      let rest = drop (length tail) (reverse xs) in
      let whole : reverse rest ++ reverse tail ≡ xs =
      sym (reverse-append tail rest) ∙ ap reverse (front_and_rest test (reverse xs)) ∙ reverse-reverse xs in
      let sum = ap length (sym whole) ∙ length-append (reverse rest) (reverse tail) in
      let count : length xs - length (reverse tail) ≡ length (reverse rest) = omega (arith, sum) in
      let front : take (length xs - length (reverse tail)) xs ≡ reverse rest =
      ap₂ take count (sym whole) ∙ take-append_seam (reverse rest) (reverse tail) in
      ap (λ l. l ++ reverse tail) front ∙ whole

  -- the three together
  pub cut_in_three : (in_front in_back : A → Bool) (xs : List A) →
      let front = take_while in_front xs in
      let rest = drop (length front) xs in
      front ++ (before_back in_back rest ++ back_while in_back rest) ≡ xs
  cut_in_three in_front in_back xs =
      let front = take_while in_front xs in
      ap (λ l. front ++ l) (before_and_back in_back (drop (length front) xs)) ∙ front_and_rest in_front xs
