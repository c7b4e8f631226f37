-- The pairs that were memoized, where nothing is and after one more.
use Rattle.std.proofs.Common.{◌≡◌, ◌≢◌, ℕ, ◌*◌, ◌/◌, ◌%◌, ◌^◌, Bool, true, false, ◌||◌, not, List, [], ◌∷◌, Vec, Option, Some, None, Result, Ok, Err, OnErr, ◌==◌, refl, sym, ap, subst, ◌∙◌, inl, inr, arith, bit_or, w64, nat_eq, cond, if◌then◌else◌}
use Rattle.std.proofs.lemmas.Bool.{cases_eq, not-false, eq-eqb, ne_eqb, false_from_ne_true}
use Rattle.std.proofs.lemmas.Nat.Bits.{bit_at_set_same, bit_at_set_other, bit_at-zero}
use Rattle.std.proofs.lemmas.List.Sorted.{list_any-IsPermutation}
use Rattle.std.specs.Int.{bit_at}
use Rattle.std.specs.List.{list_any}
use Rattle.std.specs.Map.{lookup}
use Rattle.std.specs.HashMap.{get, Updates}
use Rattle.std.specs.HashSet.{HashSet, PutsKey, contains_by}
use Rattle.std.specs.declared.alloc.Global.{Global}
use Rattle.std.specs.declared.hash.FoldHasher.{FoldHasher}
use Rattle.std.specs.declared.hash.BuildHasherDefault.{BuildHasherDefault}
use lib.Pointwise.{bytes_decides}
use Rattle.fancy_backtrack.specs.declared.failed.Failed.{Failed}
use Rattle.fancy_backtrack.specs.PairKeys.{same_numbers}
use Rattle.fancy_backtrack.specs.PairNumbers.{pair_value}
use Rattle.fancy_backtrack.specs.FailedPairs.{Words, word_of, number_is_set, is_memoized, has_pair}
use Rattle.fancy_backtrack.proofs.PairNumberLaws.{one_numbered}

-- ---- words

module _ (old new : Words) (number n : ℕ) where
  -- the word that gets the bit
  abbrev word_before : ℕ
  word_before = word_of (get nat_eq old (number / 64))

  abbrev word_then : ℕ
  word_then = bit_or word_before (1 * 2 ^ (number % 64) % 2 ^ 64)

  abbrev Adds : Type 0
  Adds = Updates nat_eq old new (number / 64) (Some word_then)

  -- the word that has bit n is the one that was written, or as before
  word_is : Adds → (b : Bool) → (number / 64 == n / 64) ≡ b →
      word_of (get nat_eq new (n / 64)) ≡ (if b then word_then else word_of (get nat_eq old (n / 64)))
  word_is adds true e = ap word_of (adds.0 (n / 64) ∙ ap (λ t. cond t (Some word_then) (get nat_eq old (n / 64))) e)
  word_is adds false e = ap word_of (adds.0 (n / 64) ∙ ap (λ t. cond t (Some word_then) (get nat_eq old (n / 64))) e)

  -- one more bit
  pub number_added : Adds → number_is_set new n ≡ (n == number || number_is_set old n)
  number_added adds = elim (cases_eq (n / 64) (number / 64)) [
    | inl row ↦ in_row row
    | inr elsewhere ↦
        ap (λ w. bit_at w (n % 64) == 1) (word_is adds false (ne_eqb (number / 64) (n / 64) (λ e. elsewhere (sym e))))
        ∙ sym (ap (λ b. b || number_is_set old n) (ne_eqb n number (λ e. elsewhere (ap (λ m. m / 64) e))))
  ]
    where
      in_row : n / 64 ≡ number / 64 → number_is_set new n ≡ (n == number || number_is_set old n)
      in_row row = elim (cases_eq n number) [
        | inl same ↦
            ap (λ w. bit_at w (n % 64) == 1) (word_is adds true (eq-eqb (number / 64) (n / 64) (sym row)))
            ∙ ap (λ m. bit_at word_then (m % 64) == 1) same
            ∙ eq-eqb _ 1 (bit_at_set_same w64 word_before (number % 64) (omega arith))
            ∙ sym (ap (λ b. b || number_is_set old n) (eq-eqb n number same))
        | inr other ↦
            ap (λ w. bit_at w (n % 64) == 1) (word_is adds true (eq-eqb (number / 64) (n / 64) (sym row)))
            ∙ ap (λ x. x == 1) (bit_at_set_other w64 word_before (number % 64) (omega arith) (n % 64) (omega arith))
            ∙ ap (λ i. bit_at (word_of (get nat_eq old i)) (n % 64) == 1) (sym row)
            ∙ sym (ap (λ b. b || number_is_set old n) (ne_eqb n number other))
      ]

-- ---- pairs

is_same : (k : List ℕ) → same_numbers k k ≡ true
is_same k = (bytes_decides k k).1 refl

not_same : (s : Failed) (k m : List ℕ) → pair_value s.numbers s.base k ≢ pair_value s.numbers s.base m → same_numbers k m ≡ false
not_same s k m apart =
    false_from_ne_true (same_numbers k m) (λ h. apart (ap (pair_value s.numbers s.base) ((bytes_decides k m).0 h)))

pub memoized_at : (s : Failed) (k : List ℕ) (o : Option ℕ) → o ≡ pair_value s.numbers s.base k → is_memoized o s k ≡ has_pair s k
unfolding has_pair
memoized_at s k o e = ap (λ o. is_memoized o s k) e

no_number : (words : Words) (n : ℕ) → words.entries ≡ [] → number_is_set words n ≡ false
no_number words n none =
    ap (λ entries. bit_at (word_of (lookup (nat_eq (n / 64)) entries)) (n % 64) == 1) none
    ∙ ap (λ x. x == 1) (bit_at-zero (n % 64))

pub none_memoized : (s : Failed) → s.words.entries ≡ [] → s.lists.keys ≡ [] → (k : List ℕ) → has_pair s k ≡ false
unfolding has_pair
none_memoized s no_words no_lists k = go (pair_value s.numbers s.base k)
  where
    go : (o : Option ℕ) → is_memoized o s k ≡ false
    go None = ap (list_any (λ v. same_numbers k v.items)) no_lists
    go (Some n) = no_number s.words n no_words

-- one more that has a number
pub number_set : (s : Failed) (words : Words) (m : List ℕ) (number : ℕ) → pair_value s.numbers s.base m ≡ Some number →
    ((n : ℕ) → number_is_set words n ≡ (n == number || number_is_set s.words n)) →
    (k : List ℕ) → has_pair (record s { words = words }) k ≡ (same_numbers k m || has_pair s k)
unfolding has_pair
number_set s words m number of_m more k = go (pair_value s.numbers s.base k) refl
  where
    same_number : (n : ℕ) → pair_value s.numbers s.base k ≡ Some n → (n == number) ≡ same_numbers k m
    same_number n of_k = elim (cases_eq n number) [
      | inl e ↦ eq-eqb n number e ∙ sym ((bytes_decides k m).1 (one_numbered s.numbers s.base k m number (of_k ∙ ap Some e) of_m))
      | inr apart ↦ ne_eqb n number apart ∙ sym (not_same s k m (λ e. apart (cc)))
    ]

    go : (o : Option ℕ) → pair_value s.numbers s.base k ≡ o →
        is_memoized o (record s { words = words }) k ≡ (same_numbers k m || is_memoized o s k)
    go None of_k = sym (ap (λ b. b || is_memoized None s k) (not_same s k m (λ e. cc)))
    go (Some n) of_k = more n ∙ ap (λ b. b || number_is_set s.words n) (same_number n of_k)

pub same_words : (s : Failed) (words : Words) → words.entries ≡ s.words.entries → (k : List ℕ) →
    has_pair (record s { words = words }) k ≡ has_pair s k
unfolding has_pair
same_words s words same k = go (pair_value s.numbers s.base k)
  where
    go : (o : Option ℕ) → is_memoized o (record s { words = words }) k ≡ is_memoized o s k
    go None = refl
    go (Some n) = ap (λ entries. bit_at (word_of (lookup (nat_eq (n / 64)) entries)) (n % 64) == 1) same

-- ---- lists

abbrev pub Lists : Type 0
Lists = HashSet (Vec ℕ Global) (BuildHasherDefault FoldHasher)

-- the set of lists has these numbers
abbrev pub has_list : Lists → List ℕ → Bool
has_list lists k = contains_by (λ v. same_numbers k v.items) lists

-- one more that has none
list_set : (s : Failed) (lists : Lists) (bytes : ℕ) (m : List ℕ) → pair_value s.numbers s.base m ≡ None →
    ((k : List ℕ) → has_list lists k ≡ (same_numbers k m || has_list s.lists k)) →
    (k : List ℕ) → has_pair (record s { lists = lists; list_bytes = bytes }) k ≡ (same_numbers k m || has_pair s k)
unfolding has_pair
list_set s lists bytes m of_m more k = go (pair_value s.numbers s.base k) refl
  where
    go : (o : Option ℕ) → pair_value s.numbers s.base k ≡ o →
        is_memoized o (record s { lists = lists; list_bytes = bytes }) k ≡ (same_numbers k m || is_memoized o s k)
    go None of_k = more k
    go (Some n) of_k = sym (ap (λ b. b || number_is_set s.words n) (not_same s k m (λ e. cc)))

-- the set after an insert has one more
list_put : (old new : Lists) (v : Vec ℕ Global) (added : Bool) →
    added ≡ not (has_list old v.items) → PutsKey old new v added →
    (k : List ℕ) → has_list new k ≡ (same_numbers k v.items || has_list old k)
list_put old new v true was puts k = sym (list_any-IsPermutation (λ w. same_numbers k w.items) (v ∷ old.keys) new.keys puts)
list_put old new v false was puts k = ap (list_any (λ w. same_numbers k w.items)) puts ∙ go (same_numbers k v.items) refl
  where
    go : (b : Bool) → same_numbers k v.items ≡ b → has_list old k ≡ (b || has_list old k)
    go false other = refl
    go true same = ap (has_list old) ((bytes_decides k v.items).0 same) ∙ not-false (has_list old v.items) (sym was)

-- the set after an insert of this list of numbers
pub list_added : (s : Failed) (lists : Lists) (bytes : ℕ) (m : List ℕ) (v : Vec ℕ Global) (added : Bool) → pair_value s.numbers s.base m ≡ None →
    v.items ≡ m → added ≡ not (has_list s.lists v.items) → PutsKey s.lists lists v added →
    (k : List ℕ) → has_pair (record s { lists = lists; list_bytes = bytes }) k ≡ (same_numbers k m || has_pair s k)
list_added s lists bytes m v added of_m same was puts =
    list_set s lists bytes m of_m (subst (λ l. (k : List ℕ) → has_list lists k ≡ (same_numbers k l || has_list s.lists k)) same
    (list_put s.lists lists v added was puts))

pub same_lists : (s : Failed) (lists : Lists) → lists.keys ≡ s.lists.keys → (k : List ℕ) →
    has_pair (record s { lists = lists }) k ≡ has_pair s k
unfolding has_pair
same_lists s lists same k = go (pair_value s.numbers s.base k)
  where
    go : (o : Option ℕ) → is_memoized o (record s { lists = lists }) k ≡ is_memoized o s k
    go None = ap (list_any (λ v. same_numbers k v.items)) same
    go (Some n) = refl

-- how much may be says nothing of the pairs
pub same_pairs : (s : Failed) (most : ℕ) (k : List ℕ) → has_pair (record s { most = most }) k ≡ has_pair s k
unfolding has_pair
same_pairs s most k = go (pair_value s.numbers s.base k)
  where
    go : (o : Option ℕ) → is_memoized o (record s { most = most }) k ≡ is_memoized o s k
    go None = refl
    go (Some n) = refl

pub on_err : {T E P : Type 0} (r : Result T E) → P → OnErr r P
on_err (Ok x) p = tt
on_err (Err e) p = p
