-- The rest of a text, byte by byte.
use Rattle.std.proofs.Common.{◌≡◌, ℕ, ◌+◌, ◌<◌, ◌≤◌, Bool, true, false, ◌&&◌, ◌||◌, ◌==◌, List, length, slice_index, refl, ap, drop_of_length-le, ◌∙◌}
use Rattle.std.specs.List.{list_all}
use Rattle.fancy_characters.proofs.RestLaws.{rest_here}
use Rattle.fancy_meaning.specs.Assertions.{only_newlines_left}

abbrev pub is_line_byte : Bool → ℕ → Bool
is_line_byte crlf b = b == 10 || (crlf && b == 13)

module _ (text : List ℕ) (crlf : Bool) where
  pub none_left : (i : ℕ) → length text ≤ i → only_newlines_left text i crlf ≡ true
  unfolding only_newlines_left
  none_left i h = rw (drop_of_length-le text {i = i} h) refl

  pub one_more : (i : ℕ) → i < length text →
      only_newlines_left text i crlf ≡ (is_line_byte crlf (slice_index text i) && only_newlines_left text (i + 1) crlf)
  unfolding only_newlines_left
  one_more i h = ap (list_all (is_line_byte crlf)) (rest_here text i 0 h)

  pub other_first : (i : ℕ) → i < length text → is_line_byte crlf (slice_index text i) ≡ false → only_newlines_left text i crlf ≡ false
  other_first i h other = one_more i h ∙ ap (λ b. b && only_newlines_left text (i + 1) crlf) other

  pub newline_first : (i : ℕ) → i < length text → is_line_byte crlf (slice_index text i) ≡ true →
      only_newlines_left text i crlf ≡ only_newlines_left text (i + 1) crlf
  newline_first i h newline = one_more i h ∙ ap (λ b. b && only_newlines_left text (i + 1) crlf) newline
