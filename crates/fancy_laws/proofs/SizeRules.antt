-- What sizes say of counts, and how the sizes of parts join.
use Rattle.std.proofs.Common.{◌≡◌, ◌≢◌, ℕ, suc, ◌+◌, ◌*◌, ◌<◌, ◌≤◌, ◌⊎◌, inl, inr, ⊎_elim, min, max, true, false, ◌&&◌, Option, Some, None, IfSome, ◌==◌, refl, sym, ap, subst, ◌∙◌, arith, eqb-true}
use Rattle.std.proofs.lemmas.Bool.{and_parts, false≢true, cases_lt, cond-true, cond-false}
use Rattle.std.proofs.lemmas.Bool.Decides.{eqb_tells}
use Rattle.std.proofs.Math.Nat.{mul-le-mul_left}
use Rattle.fancy_meaning.specs.Sizes.{Size, saturated, exactly, plus, either, most_times, is_exact, times, unknown}
use Rattle.fancy_meaning.specs.Numbers.{usize_max}
use Rattle.fancy_meaning.specs.Premises.{IsSized}

-- ---- saturation

sat_le : (b n m : ℕ) → n ≤ m → min n b ≤ m
sat_le b n m le = omega arith

-- what is below the bound is as it is, and else there is no bound
sat_most : (b n m : ℕ) → n ≤ m → (min m b ≡ b) ⊎ (n ≤ min m b)
sat_most b n m le = ⊎_elim
    (λ (lt : m < b). inr (omega (arith, lt, le)))
    (λ (ge : b ≤ m). inl (omega (arith, ge)))
    (cases_lt m b)

sat_below : (b n : ℕ) → min n b < b → (n < b) × (min n b ≡ n)
sat_below b n lt = (omega (arith, lt), omega (arith, lt))

-- ---- one after the other, one or the other

pub sized_exactly : (n : ℕ) → IsSized (exactly n) n
sized_exactly n = record {
  at_least = sat_le usize_max n n (omega arith);
  at_most = sat_most usize_max n n (omega arith);
  exact = λ const below. sym (sat_below usize_max n below).1;
}

pub sized_unknown : (n : ℕ) → IsSized unknown n
sized_unknown n = record { at_least = omega arith; at_most = inl refl; exact = λ const below. absurd (false≢true const) }

most_plus : (b m k n l : ℕ) → (m ≡ b) ⊎ (n ≤ m) → (k ≡ b) ⊎ (l ≤ k) → (min (m + k) b ≡ b) ⊎ (n + l ≤ min (m + k) b)
most_plus b m k n l (inl e) r = inl (omega (arith, e))
most_plus b m k n l (inr h) (inl e) = inl (omega (arith, e))
most_plus b m k n l (inr h) (inr k') = sat_most b (n + l) (m + k) (omega (arith, h, k'))

pub sized_plus : (a b : Size) (n m : ℕ) → IsSized a n → IsSized b m → IsSized (plus a b) (n + m)
sized_plus a b n m h k = record {
  at_least = sat_le usize_max (a.least + b.least) (n + m) (omega (arith, h.at_least, k.at_least));
  at_most = most_plus usize_max a.most b.most n m h.at_most k.at_most;
  exact = λ const below.
      let both = and_parts a.is_const b.is_const const in
      let is = sat_below usize_max (a.least + b.least) below in
      let first : n ≡ a.least = h.exact both.0 (omega (arith, is.0)) in
      let last : m ≡ b.least = k.exact both.1 (omega (arith, is.0)) in
      omega (arith, first, last, is.1);
}

most_either : (b m k n : ℕ) → m ≤ b → k ≤ b → (m ≡ b) ⊎ (n ≤ m) → (max m k ≡ b) ⊎ (n ≤ max m k)
most_either b m k n mb kb (inl e) = inl (omega (arith, e, kb))
most_either b m k n mb kb (inr h) = inr (omega (arith, h))

-- a greatest size is no more than the largest number
abbrev pub IsBounded : Size → Type 0
IsBounded z = z.most ≤ usize_max

pub sized_either_left : (a b : Size) (n : ℕ) → IsBounded a → IsBounded b → IsSized a n → IsSized (either a b) n
sized_either_left a b n ba bb h = record {
  at_least = omega (arith, h.at_least);
  at_most = most_either usize_max a.most b.most n ba bb h.at_most;
  exact = λ const below.
      let last = and_parts (a.is_const && b.is_const) (a.least == b.least) const in
      let same = eqb-true a.least b.least last.1 in
      let one : min a.least b.least ≡ a.least = omega (arith, same) in
      h.exact (and_parts a.is_const b.is_const last.0).0 (omega (arith, below, one)) ∙ sym one;
}

most_swap : (b m k n : ℕ) → (max m k ≡ b) ⊎ (n ≤ max m k) → (max k m ≡ b) ⊎ (n ≤ max k m)
most_swap b m k n (inl e) = inl (omega (arith, e))
most_swap b m k n (inr h) = inr (omega (arith, h))

pub sized_either_right : (a b : Size) (n : ℕ) → IsBounded a → IsBounded b → IsSized b n → IsSized (either a b) n
sized_either_right a b n ba bb h = record {
  at_least = omega (arith, h.at_least);
  at_most = most_swap usize_max b.most a.most n (most_either usize_max b.most a.most n bb ba h.at_most);
  exact = λ const below.
      let last = and_parts (a.is_const && b.is_const) (a.least == b.least) const in
      let same = eqb-true a.least b.least last.1 in
      let one : min a.least b.least ≡ b.least = omega (arith, same) in
      h.exact (and_parts a.is_const b.is_const last.0).1 (omega (arith, below, one)) ∙ sym one;
}

-- ---- a number of times

-- so many characters by k parts of the size
pub record IsTimes (z : Size) (k n : ℕ) : Type 0 where
  pub at_least : z.least * k ≤ n
  pub at_most : (z.most ≡ usize_max) ⊎ (n ≤ z.most * k)
  pub exact : z.is_const ≡ true → z.least * k < usize_max → n ≡ z.least * k

pub no_times : (z : Size) → IsTimes z 0 0
no_times z = record { at_least = omega arith; at_most = inr (omega arith); exact = λ const below. omega arith }

most_once_more : (b m k n l : ℕ) → (m ≡ b) ⊎ (n ≤ m) → (m ≡ b) ⊎ (l ≤ m * k) → (m ≡ b) ⊎ (n + l ≤ m * suc k)
most_once_more b m k n l (inl e) r = inl e
most_once_more b m k n l (inr h) (inl e) = inl e
most_once_more b m k n l (inr h) (inr r) = inr (omega (arith, h, r))

pub once_more : (z : Size) (k n m : ℕ) → IsSized z n → IsTimes z k m → IsTimes z (suc k) (n + m)
once_more z k n m h t = record {
  at_least = omega (arith, h.at_least, t.at_least);
  at_most = most_once_more usize_max z.most k n m h.at_most t.at_most;
  exact = λ const below.
      let one : n ≡ z.least = h.exact const (omega (arith, below)) in
      let rest : m ≡ z.least * k = t.exact const (omega (arith, below)) in
      omega (arith, one, rest);
}

most_of_times : (most k n : ℕ) (hi : Option ℕ) → IfSome hi (λ h. k ≤ h) → (most ≡ usize_max) ⊎ (n ≤ most * k) →
    (most_times most hi ≡ usize_max) ⊎ (n ≤ most_times most hi)
most_of_times most k n None le h = inl refl
most_of_times most k n (Some hi) le h = ⊎_elim
    (λ same. inl (cond-true (most == usize_max) usize_max (saturated (most * hi)) same.0))
    (λ (other : (most == usize_max ≡ false) × (most ≢ usize_max)).
    subst (λ m. (m ≡ usize_max) ⊎ (n ≤ m)) (sym (cond-false (most == usize_max) usize_max (saturated (most * hi)) other.0))
    (⊎_elim (λ e. absurd (other.1 e))
    (λ (below : n ≤ most * k). sat_most usize_max n (most * hi) (omega (arith, below, mul-le-mul_left most le))) h))
    (eqb_tells most usize_max)

pub sized_times : (z : Size) (lo : ℕ) (hi : Option ℕ) (k n : ℕ) → lo ≤ k → IfSome hi (λ h. k ≤ h) → IsTimes z k n →
    IsSized (times lo hi z) n
sized_times z lo hi k n from to t = record {
  at_least = sat_le usize_max (z.least * lo) n (omega (arith, t.at_least, mul-le-mul_left z.least from));
  at_most = most_of_times z.most k n hi to t.at_most;
  exact = λ const below.
      let both = and_parts z.is_const (is_exact lo hi) const in
      let is = sat_below usize_max (z.least * lo) below in
      let as_many : k ≡ lo = count hi to both.1 in
      let same : z.least * k ≡ z.least * lo = ap (λ m. z.least * m) as_many in
      t.exact both.0 (omega (arith, same, is.0)) ∙ same ∙ sym is.1;
}
  where
    count : (h : Option ℕ) → IfSome h (λ m. k ≤ m) → is_exact lo h ≡ true → k ≡ lo
    count None le e = absurd (false≢true e)
    count (Some m) le e = let same = eqb-true lo m e in omega (arith, from, le, same)
