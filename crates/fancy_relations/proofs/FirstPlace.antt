-- Bytes of a text begin at its places, so the first byte where they begin is the first such place.
use Rattle.std.proofs.Common.{◌≡◌, ℕ, zero, suc, ◌+◌, ◌-◌, Bool, true, false, not, if◌then◌else◌, List, [], ◌∷◌, ◌++◌, length, drop, filter, Some, IsUtf8, refl, sym, ap, ◌∙◌, arith, le-leb, length-drop}
use Rattle.std.specs.Prelude.{slice_get}
use Rattle.std.proofs.lemmas.Bool.{and_from, true≢false}
use Rattle.std.proofs.lemmas.Str.{IsCharBoundary-start}
use Rattle.regex.proofs.Utf8Lemmas.{test_of_IsCharBoundary}
use Rattle.std.specs.Int.{is_in_range}
use Rattle.regex_hir.specs.Text.{has_bytes_at, is_boundary, is_none_or}
use Rattle.regex_hir.proofs.TextLemmas.{has_bytes_at_from, has_bytes_at_parts}
use Rattle.fancy_meaning.specs.Places.{is_place, places_from, range_from}
use Rattle.fancy_laws.proofs.Moves.{is_place_parts}
use Rattle.fancy_relations.specs.Escaped.{first_place}

-- what stands at the start of what follows
get_of_drop : (text : List ℕ) (i : ℕ) → slice_get text i ≡ slice_get (drop i text) 0
get_of_drop [] zero = refl
get_of_drop [] (suc i) = refl
get_of_drop (b ∷ bs) zero = refl
get_of_drop (b ∷ bs) (suc i) = get_of_drop bs i

-- bytes that begin a text begin at its boundary
boundary_where : (text : List ℕ) (i b : ℕ) → slice_get text i ≡ Some b → (bs : List ℕ) → is_boundary (b ∷ bs) 0 ≡ true →
    is_boundary text i ≡ true
unfolding is_boundary
boundary_where text i b e bs h = ap (λ o. is_none_or o (λ c. not (is_in_range 0x80 0xBF c))) e ∙ h

module _ (text : List ℕ) (b : ℕ) (bs : List ℕ) (utf8 : IsUtf8 (b ∷ bs)) where
  begins_at_place : (i : ℕ) → has_bytes_at text i (b ∷ bs) ≡ true → is_place text i ≡ true
  begins_at_place i h =
      let rest : List ℕ = drop (i + length (b ∷ bs)) text in
      let e : drop i text ≡ b ∷ bs ++ rest = has_bytes_at_parts text i (b ∷ bs) h in
      let there : slice_get text i ≡ Some b = get_of_drop text i ∙ ap (λ l. slice_get l 0) e in
      and_from _ _ (le-leb i (length text) (omega (arith, ap length e, length-drop i text)))
      (boundary_where text i b there bs (test_of_IsCharBoundary (b ∷ bs) 0 (IsCharBoundary-start (b ∷ bs) utf8)))

  abbrev found : List ℕ → List ℕ
  found = filter (λ i. has_bytes_at text i (b ∷ bs))

  same_first : (is : List ℕ) → found (filter (is_place text) is) ≡ found is
  same_first [] = refl
  same_first (i ∷ is) = by_tests (is_place text i) (has_bytes_at text i (b ∷ bs)) refl refl (same_first is)
    where
      by_tests : (u v : Bool) → is_place text i ≡ u → has_bytes_at text i (b ∷ bs) ≡ v →
          found (filter (is_place text) is) ≡ found is →
          found (if u then i ∷ filter (is_place text) is else filter (is_place text) is)
          ≡ (if v then i ∷ found is else found is)
      by_tests true v p q rest =
          ap (λ t. if t then i ∷ found (filter (is_place text) is) else found (filter (is_place text) is)) q
          ∙ ap (λ l. if v then i ∷ l else l) rest
      by_tests false false p q rest = rest
      by_tests false true p q rest = absurd (true≢false (sym (begins_at_place i q) ∙ p))

  same_places : (pos : ℕ) → slice_get (found (places_from text pos)) 0 ≡ first_place text (b ∷ bs) pos
  unfolding places_from
  same_places pos = ap (λ l. slice_get l 0) (same_first (range_from pos (suc (length text) - pos)))

-- the places from one of them on begin with it
pub place_first : (text : List ℕ) (i : ℕ) → is_place text i ≡ true →
    places_from text i ≡ i ∷ filter (is_place text) (range_from (suc i) (length text - i))
unfolding places_from
place_first text i at =
    let within = (is_place_parts text i at).0 in
    let more : suc (length text) - i ≡ suc (length text - i) = omega (arith, within) in
    let rest = filter (is_place text) (range_from (suc i) (length text - i)) in
    ap (λ n. filter (is_place text) (range_from i n)) more ∙ ap (λ b. if b then i ∷ rest else rest) at

-- nothing stands everywhere
nothing_first : (text : List ℕ) (i : ℕ) (is : List ℕ) → slice_get (filter (λ k. has_bytes_at text k []) (i ∷ is)) 0 ≡ Some i
nothing_first text i is =
    let rest = filter (λ k. has_bytes_at text k []) is in
    ap (λ b. slice_get (if b then i ∷ rest else rest) 0) (has_bytes_at_from text i [] (drop i text) refl)

pub first_at_places : (text bytes : List ℕ) (pos : ℕ) → IsUtf8 bytes → is_place text pos ≡ true →
    slice_get (filter (λ i. has_bytes_at text i bytes) (places_from text pos)) 0 ≡ first_place text bytes pos
first_at_places text (b ∷ bs) pos utf8 at = same_places text b bs utf8 pos
first_at_places text [] pos utf8 at =
    let within = (is_place_parts text pos at).0 in
    let more : suc (length text) - pos ≡ suc (length text - pos) = omega (arith, within) in
    let on = range_from (suc pos) (length text - pos) in
    ap (λ is. slice_get (filter (λ i. has_bytes_at text i []) is) 0) (place_first text pos at)
    ∙ nothing_first text pos (filter (is_place text) on)
    ∙ sym (ap (λ n. slice_get (filter (λ i. has_bytes_at text i []) (range_from pos n)) 0) more ∙ nothing_first text pos on)
