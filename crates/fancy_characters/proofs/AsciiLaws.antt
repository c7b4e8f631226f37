-- The table of answers for ASCII, filled by ranges.
use Rattle.std.proofs.Common.{◌≡◌, ℕ, ◌+◌, ◌<◌, ◌≤◌, ◌||◌, ◌&&◌, Bool, true, false, nat_le, List, length, take, drop, refl, sym, ap, ◌∙◌, arith, inl, inr, set, min, slice_index_or, take-append-drop, get_or-drop, length-drop}
use Rattle.std.proofs.lemmas.Bool.{cases_eq}
use Rattle.std.proofs.lemmas.Bool.Decides.{nat_tests}
use Rattle.std.proofs.lemmas.Grind.{get_or-set_at}
use Rattle.std.proofs.lemmas.List.{get_or-set_other}
use Rattle.regex_class.specs.Ranges.{Range, in_range, in_ranges, range_at, IsCanonical}
use Rattle.regex_class.proofs.RangesLemmas.{in_range_tells, in_ranges-append, in_ranges-outside, or-false, rises_from-mono}

-- the number is in the range, and below `end`
abbrev pub in_front : Range → ℕ → ℕ → Bool
in_front r end k = in_range r k && nat_le (k + 1) end

pub none_yet : (old : Bool) (r : Range) (k : ℕ) → old ≡ (old || in_front r r.0 k)
none_yet true r k = refl
none_yet false r k = grind (arith, nat_tests, in_range_tells r k)

-- one more number of the range is written
pub one_more_yes : (answers : List Bool) (old : Bool) (r : Range) (c k : ℕ) → c < length answers → r.0 ≤ c → c ≤ r.1 →
    slice_index_or answers k false ≡ (old || in_front r c k) → slice_index_or (set answers c true) k false ≡ (old || in_front r (c + 1) k)
one_more_yes answers true r c k inside from to before = elim (cases_eq k c) [
  | inl here ↦ get_or-set_at answers c k true false here inside
  | inr other ↦ get_or-set_other answers c k true false other ∙ before
]
one_more_yes answers false r c k inside from to before = elim (cases_eq k c) [
  | inl here ↦ get_or-set_at answers c k true false here inside ∙ grind (arith, nat_tests, here, in_range_tells r k)
  | inr other ↦ get_or-set_other answers c k true false other ∙ before ∙ grind (arith, nat_tests, other)
]

-- up to 127 all of the range is written
pub all_yes : (old : Bool) (r : Range) (c k : ℕ) → k < 128 → min r.1 127 + 1 ≤ c → (old || in_front r c k) ≡ (old || in_range r k)
all_yes true r c k ascii past = refl
all_yes false r c k ascii past = grind (arith, nat_tests, in_range_tells r k)

-- ranges that begin later hold no smaller number
pub none_later : (rs : List Range) (i c : ℕ) → IsCanonical rs → i < length rs → c < (range_at rs i).0 → in_ranges (take i rs) c ≡ in_ranges rs c
none_later rs i c canonical inside below =
    let none : in_ranges (drop i rs) c ≡ false = in_ranges-outside (drop i rs) c (λ k hk.
    let within : i + k < length rs = omega (arith, length-drop i rs) in
    let order = rises_from-mono 0 rs i (i + k) canonical (omega arith) within in
    inl (rw get_or-drop (omega arith))) in
    sym (or-false _) ∙ ap (λ b. in_ranges (take i rs) c || b) (sym none)
    ∙ sym (in_ranges-append (take i rs) (drop i rs) c) ∙ ap (λ l. in_ranges l c) (take-append-drop i rs)

-- a range that ends with ASCII holds no number beyond
pub none_beyond : (rs : List Range) (i k : ℕ) → (range_at rs i).1 < 128 → 128 ≤ k → in_ranges (take i rs) k ≡ false →
    (in_ranges (take i rs) k || in_range (range_at rs i) k) ≡ false
none_beyond rs i k ends far none =
    ap (λ b. b || in_range (range_at rs i) k) none ∙ outside (range_at rs i) ends
  where
    outside : (r : Range) → r.1 < 128 → in_range r k ≡ false
    outside r ends = grind (arith, nat_tests, far, in_range_tells r k)
