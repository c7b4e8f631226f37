-- Every move of the definitions goes forward.
use Rattle.std.proofs.Common.{◌≡◌, ℕ, ◌+◌, ◌-◌, ◌≤◌, ◌&&◌, Bool, true, false, if◌then◌else◌, List, [], ◌∷◌, length, Some, None, slice_range, arith}
use Rattle.std.proofs.lemmas.Option.{cond_some, option_and_then_some}
use Rattle.std.specs.Char.{len_utf8}
use Rattle.regex_hir.specs.Text.{char_at, has_bytes_at}
use Rattle.fancy_meaning.specs.Places.{is_place}
use Rattle.fancy_meaning.specs.Chars.{is_newline}
use Rattle.fancy_meaning.specs.Moves.{Move, past_char, past_chars, past_newline, past_piece, pieces_fold}
use Rattle.fancy_meaning.specs.MatchState.{Span}
use Rattle.fancy_meaning.specs.Ways.{Setting}
use Rattle.fancy_delegation.proofs.Related.{IsTake, one_char, some_chars, a_newline}

past_char_forward : (text : List ℕ) (test : ℕ → Bool) (i j : ℕ) → past_char text test i ≡ Some j → i ≤ j
past_char_forward text test i j e =
    option_and_then_some (λ c. if test c then Some (i + len_utf8 c) else None) (char_at text i) j e
    (λ c at f. let to = (cond_some (test c) (i + len_utf8 c) j f).1 in omega (arith, to))

past_chars_forward : (text : List ℕ) (tests : List (ℕ → Bool)) (i j : ℕ) → past_chars text tests i ≡ Some j → i ≤ j
past_chars_forward text [] i j e = let same : i ≡ j = cc in omega (arith, same)
past_chars_forward text (test ∷ tests) i j e =
    option_and_then_some (past_chars text tests) (past_char text test i) j e
    (λ k at f. let one = past_char_forward text test i k at in let rest = past_chars_forward text tests k j f in omega (arith, one, rest))

past_newline_forward : (text : List ℕ) (unicode : Bool) (i j : ℕ) → past_newline text unicode i ≡ Some j → i ≤ j
past_newline_forward text unicode i j e = here (has_bytes_at text i (13 ∷ 10 ∷ [])) e
  where
    here : (v : Bool) → (if v then Some (i + 2) else past_char text (is_newline unicode) i) ≡ Some j → i ≤ j
    here true f = let same : i + 2 ≡ j = cc in omega (arith, same)
    here false f = past_char_forward text (is_newline unicode) i j f

pub take_forward : (q : Setting) (move : Move) → IsTake q move → (i j : ℕ) → move i ≡ Some j → i ≤ j
take_forward q move (one_char test) i j e = past_char_forward q.text test i j e
take_forward q move (some_chars tests) i j e = past_chars_forward q.text tests i j e
take_forward q move (a_newline unicode) i j e = past_newline_forward q.text unicode i j e

pub past_piece_forward : (text : List ℕ) (unicode casei : Bool) (span : Span) (i j : ℕ) → past_piece text unicode casei span i ≡ Some j → i ≤ j
past_piece_forward text unicode false (from, to) i j e =
    let p = (cond_some (has_bytes_at text i (slice_range text from to)) (i + length (slice_range text from to)) j e).1 in
    omega (arith, p)
past_piece_forward text unicode true (from, to) i j e =
    let p =
    (cond_some
    (is_place text (i + (to - from)) && pieces_fold unicode (slice_range text from to)
    (slice_range text i (i + (to - from)))) (i + (to - from)) j e).1 in
    omega (arith, p)
