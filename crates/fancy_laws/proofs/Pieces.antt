-- Moves over a text in UTF-8: from a place they lead to a place, past so many characters.
use Rattle.std.proofs.Common.{◌≡◌, ℕ, zero, suc, ◌+◌, ◌≤◌, ⊎_elim, Bool, true, false, ◌&&◌, if◌then◌else◌, List, [], ◌∷◌, ◌++◌, length, drop, Some, slice_range, chars, nat_eq, IsUtf8, IsAscii, refl, sym, ap, subst, ◌∙◌, arith, ltb-true}
use Rattle.std.proofs.lemmas.Bool.{and_parts, or_cases, cond_both}
use Rattle.std.proofs.lemmas.Option.{same_Some, option_and_then_some}
use Rattle.std.proofs.lemmas.Str.{IsUtf8-from_ascii, chars-IsAscii, scalars-chars, encodes-chars}
use Rattle.std.specs.List.{list_all}
use Rattle.std.specs.Char.{is_ascii}
use lib.Pointwise.{pointwise, pointwise_long}
use Rattle.std.specs.Cmp.Lexicographic.{same_text}
use Rattle.regex_hir.specs.Text.{has_bytes_at}
use Rattle.regex_hir.proofs.TextLemmas.{has_bytes_at_parts}
use Rattle.fancy_meaning.specs.Chars.{fold_equal, fold_equal_chars, folds_to, is_newline}
use Rattle.fancy_meaning.specs.Places.{is_place, chars_between}
use Rattle.fancy_meaning.specs.Moves.{past_char, past_chars, past_newline, past_piece, pieces_fold}
use Rattle.fancy_meaning.specs.MatchState.{Span}
use Rattle.fancy_meaning.specs.Premises.{IsSpan}
use Rattle.fancy_laws.proofs.Moves.{past_char_tells, past_piece_tells, past_piece_fits, is_place_parts}
use Rattle.fancy_laws.proofs.Characters.{char_ends_at_place, char_is_one, piece_is_utf8, piece_ends_at_place, as_many_chars, chars_of_piece, no_chars, chars_add}

ascii_from : (bs : List ℕ) → list_all is_ascii bs ≡ true → IsAscii bs
ascii_from [] h i = omega arith
ascii_from (b ∷ bs) h zero = ltb-true b 128 (and_parts (is_ascii b) (list_all is_ascii bs) h).0
ascii_from (b ∷ bs) h (suc i) = ascii_from bs (and_parts (is_ascii b) (list_all is_ascii bs) h).1 i

-- pieces that fold to one another have as many characters
pub folded_pieces_are_as_long : (unicode : Bool) (a b : List ℕ) → pieces_fold unicode a b ≡ true →
    length (chars a) ≡ length (chars b)
unfolding pieces_fold
folded_pieces_are_as_long unicode a b h =
    ⊎_elim
    (λ same. ap (λ l. length (chars l)) (same_text a b (sym same)))
    (λ folded. go unicode folded)
    (or_cases (pointwise nat_eq a b) _ h)
  where
    go : (v : Bool) →
        (if v then fold_equal_chars (chars a) (chars b)
        else (list_all is_ascii a && list_all is_ascii b && pointwise (folds_to false) a b)) ≡ true →
        length (chars a) ≡ length (chars b)
    go true f = pointwise_long fold_equal (chars a) (chars b) f
    go false f =
        let last = and_parts (list_all is_ascii a && list_all is_ascii b) (pointwise (folds_to false) a b) f in
        let both = and_parts (list_all is_ascii a) (list_all is_ascii b) last.0 in
        ap length (chars-IsAscii a (ascii_from a both.0)) ∙ pointwise_long (folds_to false) a b last.1
        ∙ sym (ap length (chars-IsAscii b (ascii_from b both.1)))

-- a move of so many characters, from a place to a place
pub record IsMove (text : List ℕ) (i j n : ℕ) : Type 0 where
  pub on : i ≤ j
  pub to : is_place text j ≡ true
  pub takes : chars_between text i j ≡ n

module _ (text : List ℕ) (utf8 : IsUtf8 text) where
  pub past_char_moves : (test : ℕ → Bool) (i j : ℕ) → is_place text i ≡ true → past_char text test i ≡ Some j → IsMove text i j 1
  past_char_moves test i j at e =
      let p = past_char_tells text test i j e in
      subst (λ k. IsMove text i k 1) (sym p.to)
      (record {
        on = omega arith;
        to = char_ends_at_place text utf8 i p.char at p.stands;
        takes = char_is_one text utf8 i p.char at p.stands;
      })

  -- a piece that is text itself
  pub past_bytes_moves : (bs : List ℕ) (i : ℕ) → is_place text i ≡ true → IsUtf8 bs → has_bytes_at text i bs ≡ true →
      IsMove text i (i + length bs) (length (chars bs))
  past_bytes_moves bs i at piece stands = record {
    on = omega arith;
    to = piece_ends_at_place text utf8 i bs at piece stands;
    takes =
        let spelled = encodes-chars bs piece in
        as_many_chars text utf8 (chars bs) (drop (i + length bs) text) i (i + length bs) at (omega (arith, ap length spelled))
        (has_bytes_at_parts text i bs stands ∙ sym (ap (λ l. l ++ drop (i + length bs) text) spelled)) (scalars-chars bs piece);
  }

  pub past_line_break_moves : (i : ℕ) → is_place text i ≡ true → has_bytes_at text i (13 ∷ 10 ∷ []) ≡ true →
      IsMove text i (i + 2) 2
  past_line_break_moves i at stands =
      let ascii : IsAscii (13 ∷ 10 ∷ []) = ascii_from (13 ∷ 10 ∷ []) refl in
      subst (IsMove text i (i + 2)) (ap length (chars-IsAscii (13 ∷ 10 ∷ []) ascii))
      (past_bytes_moves (13 ∷ 10 ∷ []) i at (IsUtf8-from_ascii (13 ∷ 10 ∷ []) ascii) stands)

  -- what a group holds, once more: as many characters
  pub past_piece_moves : (unicode casei : Bool) (span : Span) (i j : ℕ) → is_place text i ≡ true → IsSpan text span →
      past_piece text unicode casei span i ≡ Some j →
      IsMove text i j (chars_between text span.0 span.1)
  past_piece_moves unicode casei span i j at is e =
      let fits = past_piece_fits text unicode casei span i j (is_place_parts text i at).0 e in
      let held = chars_of_piece text utf8 span.0 span.1 is.in_order is.from is.to in
      let piece = piece_is_utf8 text utf8 span.0 span.1 is.in_order is.from is.to in
      ⊎_elim
      (λ b. subst (λ k. IsMove text i k (chars_between text span.0 span.1)) (sym b.to)
      (subst (IsMove text i (i + length (slice_range text span.0 span.1))) (sym held)
      (past_bytes_moves (slice_range text span.0 span.1) i at piece b.stands)))
      (λ f. record {
        on = fits.0;
        to = f.place;
        takes = chars_of_piece text utf8 i j fits.0 at f.place
            ∙ sym (folded_pieces_are_as_long unicode (slice_range text span.0 span.1) (slice_range text i j) f.folds) ∙ sym held;
      })
      (past_piece_tells text unicode casei span i j e)

  -- a newline is one character or two
  pub past_newline_moves : (unicode : Bool) (i j : ℕ) → is_place text i ≡ true → past_newline text unicode i ≡ Some j →
      (n : ℕ) × (1 ≤ n) × (n ≤ 2) × IsMove text i j n
  past_newline_moves unicode i j at =
      cond_both (has_bytes_at text i (13 ∷ 10 ∷ [])) (Some (i + 2)) (past_char text (is_newline unicode) i)
      (λ o. o ≡ Some j → (n : ℕ) × (1 ≤ n) × (n ≤ 2) × IsMove text i j n)
      (λ two e. let move = subst (λ k. IsMove text i k 2) (same_Some (i + 2) j e) (past_line_break_moves i at two) in
      (2, omega arith, omega arith, move))
      (λ one e. (1, omega arith, omega arith, past_char_moves (is_newline unicode) i j at e))

  pub past_chars_moves : (tests : List (ℕ → Bool)) (i j : ℕ) → is_place text i ≡ true → past_chars text tests i ≡ Some j →
      IsMove text i j (length tests)
  past_chars_moves [] i j at e =
      subst (λ k. IsMove text i k 0) (same_Some i j e) (record { on = omega arith; to = at; takes = no_chars text i })
  past_chars_moves (test ∷ tests) i j at e =
      option_and_then_some (past_chars text tests) (past_char text test i) j e
      (λ k one rest. let first = past_char_moves test i k at one in
      let later = past_chars_moves tests k j first.to rest in
      record {
        on = omega (arith, first.on, later.on);
        to = later.to;
        takes = chars_add text i k j first.on later.on ∙ omega (arith, first.takes, later.takes);
      })
