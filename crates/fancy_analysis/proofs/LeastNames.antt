-- The least name of a group, in a map whose names are in order.
use Rattle.std.proofs.Common.{◌≡◌, ℕ, Less, List, [], ◌∷◌, All, Contains, IsTrue, string_bytes, String, Vec, Global, sym, ap, subst, arith, inl, inr, ◌⊎◌}
use Rattle.std.specs.Ordering.{nat_cmp, is_le}
use Rattle.std.specs.Cmp.Lexicographic.{slice_cmp}
use Rattle.std.specs.String.{string_cmp}
use Rattle.std.specs.List.Sorted.{IsStrictlySortedBy}
use Rattle.std.specs.Cmp.{tied_itself}
use Rattle.std.specs.Map.{keys_of}
use Rattle.std.proofs.lemmas.Cmp.{nat_list_cmp_total}
use Rattle.std.proofs.lemmas.List.Elements.{All-head, All-tail}
use Rattle.std.proofs.lemmas.Map.Keys.{sorted_tail}
use Rattle.std.proofs.lemmas.Map.Views.{All-after_first}
use Rattle.fancy_meaning.specs.AnalysisRefusals.{IsNamed, IsLeastName}
use Rattle.fancy_analysis.specs.Names.{names_of}
use Rattle.fancy_analysis.proofs.SearchSteps.{contains_cases, contains_first, contains_later}

abbrev Named : Type 0
Named = String Global × Vec ℕ Global

-- so far no entry has the number
pub record IsLeft (g : ℕ) (all rest : List Named) : Type 0 where
  pub only : (name : List ℕ) → IsNamed (names_of all) g name → IsNamed (names_of rest) g name
  pub still : (name : List ℕ) → IsNamed (names_of rest) g name → IsNamed (names_of all) g name
  pub sorted : IsStrictlySortedBy string_cmp (keys_of rest)

first_or_later : (g : ℕ) (x : Named) (rest : List Named) (name : List ℕ) → IsNamed (names_of (x ∷ rest)) g name →
    ((string_bytes x.0 ≡ name) × Contains x.1.items g) ⊎ IsNamed (names_of rest) g name
first_or_later g x rest name n = elim (contains_cases _ _ _ n.is_there) [
  | inl e ↦ inl (ap (λ p. p.0) e, subst (λ ns. Contains ns g) (sym (ap (λ p. p.1) e)) n.has)
  | inr c ↦ inr (record { numbers = n.numbers; is_there = c; has = n.has })
]

later : (g : ℕ) (x : Named) (rest : List Named) (name : List ℕ) → IsNamed (names_of rest) g name → IsNamed (names_of (x ∷ rest)) g name
later g x rest name n = record { numbers = n.numbers; is_there = contains_later _ _ _ n.is_there; has = n.has }

pub left_more : (g : ℕ) (all : List Named) (x : Named) (rest : List Named) → ¬ Contains x.1.items g → IsLeft g all (x ∷ rest) → IsLeft g all rest
left_more g all x rest out left = record {
  only = λ name n. elim (first_or_later g x rest name (left.only name n)) [ inl w ↦ absurd (out w.1) | inr m ↦ m ];
  still = λ name n. left.still name (later g x rest name n);
  sorted = sorted_tail string_cmp x.0 (keys_of rest) left.sorted;
}

pub none_left : (g : ℕ) (all : List Named) → IsLeft g all [] → (name : List ℕ) → ¬ IsNamed (names_of all) g name
none_left g all left name n = let c = (left.only name n).is_there in let lt = c.1 in absurd (omega arith)

below_all : (x : String Global) (rest : List Named) (other numbers : List ℕ) → All (λ q. string_cmp x q ≡ Less) (keys_of rest) →
    Contains (names_of rest) (other, numbers) → slice_cmp nat_cmp (string_bytes x) other ≡ Less
below_all x [] other numbers all c = let lt = c.1 in absurd (omega arith)
below_all x (y ∷ rest) other numbers all c = elim (contains_cases _ _ _ c) [
  | inl e ↦ subst (λ o. slice_cmp nat_cmp (string_bytes x) o ≡ Less) (ap (λ p. p.0) e) (All-head (λ q. string_cmp x q ≡ Less) y.0 (keys_of rest) all)
  | inr d ↦ below_all x rest other numbers (All-tail (λ q. string_cmp x q ≡ Less) y.0 (keys_of rest) all) d
]

pub found_least : (g : ℕ) (all : List Named) (x : Named) (rest : List Named) → Contains x.1.items g → IsLeft g all (x ∷ rest) →
    IsLeastName (names_of all) g (string_bytes x.0)
found_least g all x rest has left = record {
  is_one = left.still (string_bytes x.0) (record { numbers = x.1.items; is_there = contains_first _ _; has = has });
  least = λ other n. elim (first_or_later g x rest other (left.only other n)) [
    | inl w ↦ subst (λ o. IsTrue (is_le (slice_cmp nat_cmp (string_bytes x.0) o))) w.0 (ap is_le (tied_itself nat_list_cmp_total (string_bytes x.0)))
    | inr m ↦ ap is_le (below_all x.0 rest other m.numbers (All-after_first string_cmp x.0 (keys_of rest) left.sorted) m.is_there)
  ];
}
