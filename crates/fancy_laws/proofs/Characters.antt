-- Places of a text in UTF-8, and the characters between them.
use Rattle.std.proofs.Common.{◌≡◌, ℕ, zero, suc, ◌+◌, ◌-◌, ◌<◌, ◌≤◌, true, false, List, [], ◌∷◌, ◌++◌, length, take, drop, filter, Some, slice_range, chars, encode_utf8, encode_utf8_all, IsUtf8, IsCharBoundary, refl, sym, ap, ap₂, subst, ◌∙◌, arith, le-leb, take_at, append_assoc, length-append, length-drop}
use Rattle.std.proofs.lemmas.Bool.{and_parts, and_from, cond-true, cond-false, false_from_ne_true}
use Rattle.std.proofs.lemmas.List.{take-append-drop, length-take-le}
use Rattle.std.proofs.lemmas.List.Elements.{filter-append}
use Rattle.std.proofs.lemmas.Str.{IsUtf8-drop, IsUtf8-between, IsCharBoundary-from_take, IsCharBoundary-from_rest, IsCharBoundary-past_char, drop_past_char, encode_same, length-encode, len_utf8_bounds, scalars-chars, encodes-chars}
use Rattle.std.proofs.Math.Utf8.{scalars}
use Rattle.std.specs.Char.{len_utf8}
use Rattle.regex_hir.specs.Text.{char_at, has_bytes_at}
use Rattle.regex_hir.proofs.TextLemmas.{char_at_parts, char_at_from, has_bytes_at_parts}
use Rattle.regex.proofs.Utf8Lemmas.{IsCharBoundary-of_test, test_of_IsCharBoundary}
use Rattle.fancy_meaning.specs.Places.{range_from, is_place, chars_between}
use Rattle.fancy_laws.proofs.Moves.{is_place_parts}

pub cut_of_place : (text : List ℕ) (i : ℕ) → is_place text i ≡ true → IsCharBoundary text i
cut_of_place text i e = let p = is_place_parts text i e in IsCharBoundary-of_test text i p.0 p.1

pub place_of_cut : (text : List ℕ) (i : ℕ) → IsCharBoundary text i → is_place text i ≡ true
place_of_cut text i c = and_from _ _ (le-leb i (length text) c.0) (test_of_IsCharBoundary text i c)

-- ---- characters are counted by places

pub range_split : (n m k i j : ℕ) → k ≡ n + m → j ≡ i + n → range_from i k ≡ range_from i n ++ range_from j m
range_split zero m k i j e f =
    let same : k ≡ m = omega (arith, e) in
    let here : i ≡ j = omega (arith, f) in
    ap₂ range_from here same
range_split (suc n) m zero i j e f = absurd (omega (arith, e))
range_split (suc n) m (suc k) i j e f = ap (λ l. i ∷ l) (range_split n m k (suc i) j (omega (arith, e)) (omega (arith, f)))

pub chars_add : (text : List ℕ) (i j k : ℕ) → i ≤ j → j ≤ k →
    chars_between text i k ≡ chars_between text i j + chars_between text j k
unfolding chars_between
chars_add text i j k a b =
    ap (λ l. length (filter (is_place text) l))
    (range_split (j - i) (k - j) (k - i) (suc i) (suc j) (omega (arith, a, b)) (omega (arith, a)))
    ∙ ap length (filter-append (is_place text) (range_from (suc i) (j - i)) (range_from (suc j) (k - j)))
    ∙ length-append (filter (is_place text) (range_from (suc i) (j - i))) (filter (is_place text) (range_from (suc j) (k - j)))

pub no_chars : (text : List ℕ) (i : ℕ) → chars_between text i i ≡ 0
unfolding chars_between
no_chars text i =
    let none : i - i ≡ 0 = omega arith in
    ap (λ n. length (filter (is_place text) (range_from (suc i) n))) none

none_pass : (text : List ℕ) (n i : ℕ) → ((k : ℕ) → i ≤ k → k < i + n → is_place text k ≡ false) →
    filter (is_place text) (range_from i n) ≡ []
none_pass text zero i h = refl
none_pass text (suc n) i h =
    cond-false (is_place text i) _ _ (h i (omega arith) (omega arith))
    ∙ none_pass text n (suc i) (λ k a b. h k (omega (arith, a)) (omega (arith, b)))

-- from one place to the next
pub one_char : (text : List ℕ) (i j : ℕ) → i < j → is_place text j ≡ true → ((k : ℕ) → i < k → k < j → is_place text k ≡ false) →
    chars_between text i j ≡ 1
unfolding chars_between
one_char text i j lt at inside =
    ap (λ l. length (filter (is_place text) l))
    (range_split (j - suc i) 1 (j - i) (suc i) j (omega (arith, lt)) (omega (arith, lt)))
    ∙ ap length (filter-append (is_place text) (range_from (suc i) (j - suc i)) (j ∷ []))
    ∙ ap (λ l. length (l ++ filter (is_place text) (j ∷ [])))
    (none_pass text (j - suc i) (suc i) (λ k a b. inside k a (omega (arith, a, b))))
    ∙ ap length (cond-true (is_place text j) (j ∷ []) [] at)

-- a later place is at least one character on
pub some_char : (text : List ℕ) (i j : ℕ) → i < j → is_place text j ≡ true → 1 ≤ chars_between text i j
some_char text i j lt at =
    omega (
      arith,
      chars_add text i (j - 1) j (omega (arith, lt)) (omega arith),
      one_char text (j - 1) j (omega (arith, lt)) at (λ k a b. absurd (omega (arith, a, b))),
    )

-- ---- in UTF-8

-- a piece that begins where a character stands is empty, or as long as the character
piece_has_char : (c : ℕ) (rest after ds : List ℕ) → encode_utf8 c ++ rest ≡ encode_utf8_all ds ++ after →
    0 < length (encode_utf8_all ds) → len_utf8 c ≤ length (encode_utf8_all ds)
piece_has_char c rest after [] e some = absurd (omega (arith, some))
piece_has_char c rest after (d ∷ ds) e some =
    let same = encode_same c d rest (encode_utf8_all ds ++ after) (e ∙ append_assoc (encode_utf8 d) (encode_utf8_all ds) after) in
    omega (arith, ap len_utf8 same.0, length-encode d, length-append (encode_utf8 d) (encode_utf8_all ds))

module _ (text : List ℕ) (utf8 : IsUtf8 text) where
  pub rest_is_utf8 : (i : ℕ) → is_place text i ≡ true → IsUtf8 (drop i text)
  rest_is_utf8 i at = IsUtf8-drop text i utf8 (cut_of_place text i at)

  pub piece_is_utf8 : (i j : ℕ) → i ≤ j → is_place text i ≡ true → is_place text j ≡ true → IsUtf8 (slice_range text i j)
  piece_is_utf8 i j le from to = IsUtf8-between text i j utf8 le (cut_of_place text i from) (cut_of_place text j to)

  pub char_ends_at_place : (i c : ℕ) → is_place text i ≡ true → char_at text i ≡ Some c → is_place text (i + len_utf8 c) ≡ true
  char_ends_at_place i c at stands =
      place_of_cut text (i + len_utf8 c)
      (IsCharBoundary-past_char text (drop (i + len_utf8 c) text) i c (is_place_parts text i at).0 (rest_is_utf8 i at)
      (char_at_parts text i c stands).1)

  pub piece_ends_at_place : (i : ℕ) (bs : List ℕ) → is_place text i ≡ true → IsUtf8 bs → has_bytes_at text i bs ≡ true →
      is_place text (i + length bs) ≡ true
  piece_ends_at_place i bs at piece stands =
      let e = has_bytes_at_parts text i bs stands in
      let rest : List ℕ = drop (i + length bs) text in
      let le : length bs ≤ length (drop i text) = omega (arith, ap length e, length-append bs rest) in
      let front : take (length bs) (drop i text) ≡ bs = ap (take (length bs)) e ∙ take_at bs rest (length bs) refl in
      place_of_cut text (i + length bs)
      (IsCharBoundary-from_rest text i (length bs) (is_place_parts text i at).0
      (IsCharBoundary-from_take (drop i text) (length bs) (rest_is_utf8 i at) le (subst IsUtf8 (sym front) piece)))

  pub no_place_inside : (i c k : ℕ) → is_place text i ≡ true → char_at text i ≡ Some c → i < k → k < i + len_utf8 c →
      is_place text k ≡ false
  no_place_inside i c k at stands after before =
      false_from_ne_true (is_place text k) (λ e.
      let piece = piece_is_utf8 i k (omega (arith, after)) at e in
      let spelled : encode_utf8_all piece.0 ≡ take (k - i) (drop i text) = piece.1.1 in
      let long : length (take (k - i) (drop i text)) ≡ k - i =
      length-take-le (k - i) (drop i text) (omega (arith, length-drop i text, (is_place_parts text k e).0)) in
      let seam : encode_utf8_all piece.0 ++ drop (k - i) (drop i text) ≡ drop i text =
      ap (λ l. l ++ drop (k - i) (drop i text)) spelled ∙ take-append-drop (k - i) (drop i text) in
      omega (
        arith,
        after,
        before,
        long,
        ap length spelled,
        piece_has_char c (drop (i + len_utf8 c) text) (drop (k - i) (drop i text)) piece.0
            (sym (char_at_parts text i c stands).1 ∙ sym seam)
            (omega (arith, after, long, ap length spelled)),
      ))

  pub char_is_one : (i c : ℕ) → is_place text i ≡ true → char_at text i ≡ Some c → chars_between text i (i + len_utf8 c) ≡ 1
  char_is_one i c at stands =
      one_char text i (i + len_utf8 c) (omega (arith, len_utf8_bounds c)) (char_ends_at_place i c at stands)
      (λ k after before. no_place_inside i c k at stands after before)

  pub as_many_chars : (cs rest : List ℕ) (i j : ℕ) → is_place text i ≡ true → j ≡ i + length (encode_utf8_all cs) →
      drop i text ≡ encode_utf8_all cs ++ rest → scalars cs ≡ true →
      chars_between text i j ≡ length cs
  as_many_chars [] rest i j at end e all =
      let same : j ≡ i = omega (arith, end) in ap (chars_between text i) same ∙ no_chars text i
  as_many_chars (c ∷ cs) rest i j at end e all =
      let parts = and_parts _ _ all in
      let e' = e ∙ append_assoc (encode_utf8 c) (encode_utf8_all cs) rest in
      let stands = char_at_from text i c (encode_utf8_all cs ++ rest) parts.0 e' in
      let long = length-append (encode_utf8 c) (encode_utf8_all cs) in
      chars_add text i (i + len_utf8 c) j (omega arith) (omega (arith, end, long, length-encode c))
      ∙ ap₂ ◌+◌ (char_is_one i c at stands)
      (as_many_chars cs rest (i + len_utf8 c) j (char_ends_at_place i c at stands) (omega (arith, end, long, length-encode c))
      (drop_past_char text (encode_utf8_all cs ++ rest) i c e') parts.1)
      ∙ omega arith

  pub chars_of_piece : (i j : ℕ) → i ≤ j → is_place text i ≡ true → is_place text j ≡ true →
      chars_between text i j ≡ length (chars (slice_range text i j))
  chars_of_piece i j le from to =
      let piece = piece_is_utf8 i j le from to in
      let spelled = encodes-chars (slice_range text i j) piece in
      let long : length (take (j - i) (drop i text)) ≡ j - i =
      length-take-le (j - i) (drop i text) (omega (arith, length-drop i text, (is_place_parts text j to).0)) in
      as_many_chars (chars (slice_range text i j)) (drop (j - i) (drop i text)) i j from
      (omega (arith, le, long, ap length spelled))
      (sym (ap (λ l. l ++ drop (j - i) (drop i text)) spelled ∙ take-append-drop (j - i) (drop i text)))
      (scalars-chars (slice_range text i j) piece)
