-- A list that is a segment of another, from an index on.
use Rattle.std.proofs.Common.{◌≡◌, ℕ, ◌+◌, List, [], ◌∷◌, ◌++◌, length, Some, slice_get, refl, subst, arith, append_assoc, length-append}

module _ {A : Type 0} (ys : List A) where
  abbrev pub LiesAt : ℕ → List A → Type 0
  LiesAt p [] = Unit {0}
  LiesAt p (x ∷ xs) = (slice_get ys p ≡ Some x) × LiesAt (p + 1) xs

  pub lies_front : (p : ℕ) (xs zs : List A) → LiesAt p (xs ++ zs) → LiesAt p xs
  lies_front p [] zs h = tt
  lies_front p (x ∷ xs) zs h = (h.0, lies_front (p + 1) xs zs h.1)

  -- what comes behind, where the length of what is before it is known
  pub lies_behind : (p r : ℕ) (xs zs : List A) → p + length xs ≡ r → LiesAt p (xs ++ zs) → LiesAt r zs
  lies_behind p r [] zs e h = let same : p ≡ r = omega (arith, e) in subst (λ i. LiesAt i zs) same h
  lies_behind p r (x ∷ xs) zs e h = lies_behind (p + 1) r xs zs (omega (arith, e)) h.1

  pub lies_back : (p : ℕ) (xs zs : List A) → LiesAt p (xs ++ zs) → LiesAt (p + length xs) zs
  lies_back p xs zs h = lies_behind p (p + length xs) xs zs refl h

between : {A : Type 0} (before : List A) (x : A) (xs : List A) → slice_get (before ++ x ∷ xs) (length before) ≡ Some x
between [] x xs = refl
between (y ∷ ys) x xs = between ys x xs

lies_after : {A : Type 0} (before xs : List A) → LiesAt (before ++ xs) (length before) xs
lies_after before [] = tt
lies_after before (x ∷ xs) =
    let one_more : length (before ++ x ∷ []) ≡ length before + 1 = length-append before (x ∷ []) in
    let rest = lies_after (before ++ x ∷ []) xs in
    let joined = append_assoc before (x ∷ []) xs in (
      between before x xs,
      subst (λ i. LiesAt (before ++ x ∷ xs) i xs) one_more (subst (λ l. LiesAt l (length (before ++ x ∷ [])) xs) joined rest),
    )

pub lies_itself : {A : Type 0} (xs : List A) → LiesAt xs 0 xs
lies_itself xs = lies_after [] xs
