-- Places of a text, and the bytes that stand there.
use Rattle.std.proofs.Common.{◌≡◌, ◌≢◌, ℕ, suc, ◌+◌, ◌<◌, ◌≤◌, Bool, true, false, not, nat_eq, List, [], ◌∷◌, length, drop, slice_index, slice_index_or, ◌==◌, ◌&&◌, refl, sym, ap, ap₂, ◌∙◌, arith, drop_of_length-le, ne_eqb}
use Rattle.std.proofs.lemmas.Bool.Decides.{nat_tests}
use Rattle.std.proofs.lemmas.List.{drop_more}
use Rattle.std.proofs.lemmas.Option.{slice_get-get_or, slice_get_past}
use Rattle.std.specs.Int.{is_in_range}
use Rattle.std.specs.List.{starts_with}
use Rattle.regex_hir.specs.Text.{is_boundary, has_bytes_at}
use Rattle.fancy_meaning.specs.Places.{is_place}

pub place_inside : (text : List ℕ) (i : ℕ) (b : Bool) → i < length text → b ≡ is_in_range 0x80 0xBF (slice_index text i) →
    not b ≡ is_place text i
unfolding is_boundary
place_inside text i b h e = rw (slice_get-get_or text i 0 h, e) (grind (arith, nat_tests))

pub place_past : (text : List ℕ) (i : ℕ) → length text ≤ i → nat_eq i (length text) ≡ is_place text i
unfolding is_boundary
place_past text i h = rw (slice_get_past text i h) (grind (arith, nat_tests))

-- past the text stand only no bytes
pub empty_past : (text bytes : List ℕ) (i : ℕ) → length text < i → (length bytes == 0) ≡ has_bytes_at text i bytes
unfolding has_bytes_at
empty_past text [] i h = refl
empty_past text (b ∷ bytes) i h = rw (drop_of_length-le text {i = i} (omega arith)) (ne_eqb (suc (length bytes)) 0 (omega arith))

-- ---- bytes compared one by one

module _ (text bytes : List ℕ) (i : ℕ) where
  one_by_one : i < length text → i < length bytes →
      starts_with nat_eq (drop i text) (drop i bytes)
      ≡ (nat_eq (slice_index_or bytes i 0) (slice_index_or text i 0) && starts_with nat_eq (drop (i + 1) text) (drop (i + 1) bytes))
  one_by_one inside within = ap₂ (starts_with nat_eq) (drop_more text i 0 inside) (drop_more bytes i 0 within)

  itself : (b : ℕ) → nat_eq b b ≡ true
  itself b = grind (arith, nat_tests)

  -- the same byte stands here, so the next ones tell
  pub same_start : i < length text → i < length bytes → slice_index_or text i 0 ≡ slice_index_or bytes i 0 →
      starts_with nat_eq (drop i text) (drop i bytes) ≡ starts_with nat_eq (drop (i + 1) text) (drop (i + 1) bytes)
  same_start inside within e =
      one_by_one inside within
      ∙ ap (λ b. b && starts_with nat_eq (drop (i + 1) text) (drop (i + 1) bytes))
      (ap (nat_eq (slice_index_or bytes i 0)) e ∙ itself (slice_index_or bytes i 0))

  pub other_start : i < length text → i < length bytes → slice_index_or text i 0 ≢ slice_index_or bytes i 0 →
      starts_with nat_eq (drop i text) (drop i bytes) ≡ false
  other_start inside within apart =
      one_by_one inside within
      ∙ ap (λ b. b && starts_with nat_eq (drop (i + 1) text) (drop (i + 1) bytes))
      (ne_eqb (slice_index_or bytes i 0) (slice_index_or text i 0) (λ e. apart (sym e)))

  pub whole_start : length bytes ≤ i → starts_with nat_eq (drop i text) (drop i bytes) ≡ true
  whole_start past = ap (starts_with nat_eq (drop i text)) (drop_of_length-le bytes {i = i} past)
