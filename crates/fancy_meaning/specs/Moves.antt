-- What is taken from a text: from a place the place after it, if it stands there.
use Rattle.std.specs.Prelude.{ℕ, ◌+◌, ◌-◌, Bool, false, ◌&&◌, ◌||◌, List, [], ◌∷◌, length, Option, Some, None, if◌then◌else◌, nat_eq, slice_range, chars, option_and_then}
use Rattle.std.specs.List.{list_all}
use Rattle.std.specs.Char.{is_ascii, len_utf8}
use Rattle.regex_hir.specs.Text.{char_at, has_bytes_at}
use lib.Pointwise.{pointwise}
use Rattle.fancy_meaning.specs.Places.{is_place}
use Rattle.fancy_meaning.specs.Chars.{is_newline, folds_to, fold_equal_chars}

abbrev pub Move : Type 0
Move = ℕ → Option ℕ

-- two pieces of text that a folded back reference takes for the same
unfoldable pub pieces_fold : Bool → List ℕ → List ℕ → Bool
pieces_fold unicode a b =
    pointwise nat_eq a b
    || (if unicode then fold_equal_chars (chars a) (chars b)
    else (list_all is_ascii a && list_all is_ascii b && pointwise (folds_to false) a b))

module _ (text : List ℕ) where
  -- one character that passes the test
  abbrev pub past_char : (ℕ → Bool) → Move
  past_char test i = option_and_then (λ c. if test c then Some (i + len_utf8 c) else None) (char_at text i)

  -- characters that pass the tests, one after the other
  abbrev pub past_chars : List (ℕ → Bool) → Move
  past_chars [] i = Some i
  past_chars (test ∷ tests) i = option_and_then (past_chars tests) (past_char test i)

  -- these bytes
  abbrev pub past_bytes : List ℕ → Move
  past_bytes bytes i = if has_bytes_at text i bytes then Some (i + length bytes) else None

  -- CR LF if it is there, or else one newline
  abbrev pub past_newline : Bool → Move
  past_newline unicode i =
      if has_bytes_at text i (13 ∷ 10 ∷ []) then Some (i + 2) else past_char (is_newline unicode) i

  -- a piece of the text once more; folded, another piece of as many bytes
  abbrev pub past_piece : Bool → Bool → ℕ × ℕ → Move
  past_piece unicode casei (from, to) i =
      let piece = slice_range text from to in
      let end = i + (to - from) in
      let folds = is_place text end && pieces_fold unicode piece (slice_range text i end) in
      if casei then (if folds then Some end else None) else past_bytes piece i
