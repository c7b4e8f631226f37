-- Characters: folding, newlines, words and assertions. That a class holds a character is left out: the search of `regex`
-- does not compute.
use Rattle.std.specs.Prelude.{◌≡◌, true, false, [], ◌∷◌, map, Some, None, codes, refl}
use Rattle.fancy_meaning.specs.Tree.{EndLine, EndText, EndTextIgnoreTrailingNewlines, LeftWordBoundary, LeftWordHalfBoundary, NotWordBoundary, RightWordBoundary, RightWordHalfBoundary, StartLine, StartLineOniguruma, StartText, WordBoundary}
use Rattle.fancy_meaning.specs.Chars.{fold_equal, fold_equal_chars, literal_takes, any_takes, is_newline, is_word}
use Rattle.fancy_meaning.specs.Assertions.{holds}
use Rattle.fancy_examples.proofs.Notation.{Answered, plain, ascii, from, utf8, lit, ilit, cat, grp, assert, ref, iref, row, wide_row}

-- ---- folding

final_sigma_folds : fold_equal_chars (codes "σ") (codes "ς") ≡ true
unfolding wide_row
final_sigma_folds = refl

sharp_s_is_not_two_letters : fold_equal_chars (codes "straße") (codes "STRASSE") ≡ false
unfolding wide_row
sharp_s_is_not_two_letters = refl

long_s_folds_in_its_place : fold_equal_chars (codes "sab") (codes "ſa") ≡ false
unfolding wide_row
long_s_folds_in_its_place = refl

long_s_folds : fold_equal_chars (codes "sa") (codes "ſA") ≡ true
unfolding wide_row
long_s_folds = refl

kelvin_folds : fold_equal 0x6b 0x212a ≡ true
unfolding wide_row
kelvin_folds = refl

dotless_i_does_not_fold : fold_equal 0x69 0x131 ≡ false
unfolding wide_row
dotless_i_does_not_fold = refl

kelvin_is_no_ascii_letter : literal_takes false 0x6b true 0x212a ≡ false
unfolding row
kelvin_is_no_ascii_letter = refl

ascii_letter_folds : literal_takes false 0x6b true 0x4b ≡ true
unfolding row
ascii_letter_folds = refl

at_sign_does_not_fold : literal_takes false 0x40 true 0x60 ≡ false
unfolding row
at_sign_does_not_fold = refl

letter_that_is_not_folded : literal_takes true 0x6b false 0x4b ≡ false
unfolding row
letter_that_is_not_folded = refl

kelvin_for_k : Answered (plain (ilit "k")) (utf8 "K") (from 0) (Some (0 ∷ 3 ∷ []))
unfolding wide_row
kelvin_for_k = (refl, refl, refl)

reference_of_as_many_bytes : Answered (plain (cat (grp (lit "k") ∷ iref 1 ∷ []))) (utf8 "kK") (from 0) None
unfolding wide_row
reference_of_as_many_bytes = (refl, refl, refl)

reference_folds : Answered (plain (cat (grp (lit "é") ∷ iref 1 ∷ []))) (utf8 "éÉ") (from 0) (Some (0 ∷ 4 ∷ 0 ∷ 2 ∷ []))
unfolding wide_row
reference_folds = (refl, refl, refl)

reference_folds_ascii_alone : Answered (ascii (cat (grp (lit "é") ∷ iref 1 ∷ []))) (utf8 "éÉ") (from 0) None
unfolding wide_row
reference_folds_ascii_alone = (refl, refl, refl)

reference_folds_ascii : Answered (ascii (cat (grp (lit "a") ∷ iref 1 ∷ []))) (codes "aA") (from 0) (Some (0 ∷ 2 ∷ 0 ∷ 1 ∷ []))
unfolding wide_row
reference_folds_ascii = (refl, refl, refl)

reference_is_the_same_bytes : Answered (ascii (cat (grp (lit "é") ∷ iref 1 ∷ []))) (utf8 "éé") (from 0) (Some (0 ∷ 4 ∷ 0 ∷ 2 ∷ []))
unfolding wide_row
reference_is_the_same_bytes = (refl, refl, refl)

reference_does_not_fold : Answered (plain (cat (grp (lit "a") ∷ ref 1 ∷ []))) (codes "aA") (from 0) None
unfolding wide_row
reference_does_not_fold = (refl, refl, refl)

long_s_for_s : Answered (plain (ilit "s")) (utf8 "ſ") (from 0) (Some (0 ∷ 2 ∷ []))
unfolding wide_row
long_s_for_s = (refl, refl, refl)

long_s_is_not_ascii : Answered (ascii (ilit "s")) (utf8 "ſ") (from 0) None
unfolding wide_row
long_s_is_not_ascii = (refl, refl, refl)

folded_where_its_node_is_not_found : Answered (plain (cat (ilit "a" ∷ lit "b" ∷ []))) (codes "AB") (from 0) None
unfolding wide_row
folded_where_its_node_is_not_found = (refl, refl, refl)

folded_where_its_node_is_found : Answered (plain (cat (ilit "a" ∷ lit "b" ∷ []))) (codes "Ab") (from 0) (Some (0 ∷ 2 ∷ []))
unfolding wide_row
folded_where_its_node_is_found = (refl, refl, refl)

-- ---- newlines and any

any_takes_newline : any_takes true false 10 ≡ true
unfolding row
any_takes_newline = refl

dot_takes_no_newline : any_takes false false 10 ≡ false
unfolding row
dot_takes_no_newline = refl

dot_takes_return : any_takes false false 13 ≡ true
unfolding row
dot_takes_return = refl

dot_crlf_takes_no_return : any_takes false true 13 ≡ false
unfolding row
dot_crlf_takes_no_return = refl

vertical_tab_is_newline : is_newline false 11 ≡ true
unfolding row
vertical_tab_is_newline = refl

shift_out_is_no_newline : is_newline true 14 ≡ false
unfolding row
shift_out_is_no_newline = refl

next_line_is_newline : is_newline true 0x85 ≡ true
unfolding row
next_line_is_newline = refl

next_line_is_not_ascii : is_newline false 0x85 ≡ false
unfolding row
next_line_is_not_ascii = refl

paragraph_separator_is_newline : is_newline true 0x2029 ≡ true
unfolding row
paragraph_separator_is_newline = refl

-- ---- words

letter_with_accent_is_word : is_word true 0xe9 ≡ true
unfolding wide_row
letter_with_accent_is_word = refl

letter_with_accent_is_not_ascii : is_word false 0xe9 ≡ false
unfolding wide_row
letter_with_accent_is_not_ascii = refl

arabic_digit_is_word : is_word true 0x663 ≡ true
unfolding wide_row
arabic_digit_is_word = refl

joiner_is_word : is_word true 0x200d ≡ true
unfolding wide_row
joiner_is_word = refl

underscore_is_word : is_word false 0x5f ≡ true
unfolding wide_row
underscore_is_word = refl

euro_is_no_word : is_word true 0x20ac ≡ false
unfolding wide_row
euro_is_no_word = refl

no_word_edge_between_letters : Answered (plain (cat (assert WordBoundary ∷ lit "b" ∷ []))) (utf8 "éb") (from 0) None
unfolding wide_row
no_word_edge_between_letters = (refl, refl, refl)

word_edge_behind_accent : Answered (ascii (cat (assert WordBoundary ∷ lit "b" ∷ []))) (utf8 "éb") (from 0) (Some (2 ∷ 3 ∷ []))
unfolding wide_row
word_edge_behind_accent = (refl, refl, refl)

-- ---- assertions

line_ends_of_crlf : map (λ i. holds (codes "\r\n") i true (EndLine true)) (0 ∷ 1 ∷ 2 ∷ []) ≡ true ∷ false ∷ true ∷ []
unfolding row
line_ends_of_crlf = refl

line_starts_of_crlf : map (λ i. holds (codes "\r\n") i true (StartLine true)) (0 ∷ 1 ∷ 2 ∷ []) ≡ true ∷ false ∷ true ∷ []
unfolding row
line_starts_of_crlf = refl

line_ends_of_lf : map (λ i. holds (codes "\r\n") i true (EndLine false)) (0 ∷ 1 ∷ 2 ∷ []) ≡ false ∷ true ∷ true ∷ []
unfolding row
line_ends_of_lf = refl

line_starts_of_lf : map (λ i. holds (codes "\r\n") i true (StartLine false)) (0 ∷ 1 ∷ 2 ∷ []) ≡ true ∷ false ∷ true ∷ []
unfolding row
line_starts_of_lf = refl

line_starts_behind_return : map (λ i. holds (codes "\ra") i true (StartLine true)) (0 ∷ 1 ∷ 2 ∷ []) ≡ true ∷ true ∷ false ∷ []
unfolding row
line_starts_behind_return = refl

line_ends_before_return : map (λ i. holds (codes "a\r") i true (EndLine true)) (0 ∷ 1 ∷ 2 ∷ []) ≡ false ∷ true ∷ true ∷ []
unfolding row
line_ends_before_return = refl

lone_newline_ends_a_line : map (λ i. holds (codes "a\n") i true (EndLine true)) (0 ∷ 1 ∷ 2 ∷ []) ≡ false ∷ true ∷ true ∷ []
unfolding row
lone_newline_ends_a_line = refl

text_starts : map (λ i. holds (codes "a\n") i true StartText) (0 ∷ 1 ∷ 2 ∷ []) ≡ true ∷ false ∷ false ∷ []
unfolding row
text_starts = refl

text_ends : map (λ i. holds (codes "a\n") i true EndText) (0 ∷ 1 ∷ 2 ∷ []) ≡ false ∷ false ∷ true ∷ []
unfolding row
text_ends = refl

newlines_are_left : map (λ i. holds (codes "a\n\n") i true (EndTextIgnoreTrailingNewlines false)) (0 ∷ 1 ∷ 2 ∷ 3 ∷ [])
    ≡ false ∷ true ∷ true ∷ true ∷ []
unfolding row
newlines_are_left = refl

returns_are_left : map (λ i. holds (codes "a\r\n") i true (EndTextIgnoreTrailingNewlines true)) (0 ∷ 1 ∷ 2 ∷ 3 ∷ []) ≡ false ∷ true ∷ true ∷ true ∷ []
unfolding row
returns_are_left = refl

no_returns_are_left : map (λ i. holds (codes "a\r\n") i true (EndTextIgnoreTrailingNewlines false))
    (0 ∷ 1 ∷ 2 ∷ 3 ∷ []) ≡ false ∷ false ∷ true ∷ true ∷ []
unfolding row
no_returns_are_left = refl

oniguruma_line_starts : map (λ i. holds (codes "a\n") i true (StartLineOniguruma false)) (0 ∷ 1 ∷ 2 ∷ []) ≡ true ∷ false ∷ false ∷ []
unfolding row
oniguruma_line_starts = refl

oniguruma_line_starts_of_nothing : map (λ i. holds [] i true (StartLineOniguruma false)) (0 ∷ []) ≡ true ∷ []
unfolding row
oniguruma_line_starts_of_nothing = refl

oniguruma_line_starts_within : map (λ i. holds (codes "\na") i true (StartLineOniguruma false)) (0 ∷ 1 ∷ 2 ∷ []) ≡ true ∷ true ∷ false ∷ []
unfolding row
oniguruma_line_starts_within = refl

word_boundaries : map (λ i. holds (utf8 "é b") i true WordBoundary) (0 ∷ 2 ∷ 3 ∷ 4 ∷ []) ≡ true ∷ true ∷ true ∷ true ∷ []
unfolding wide_row
word_boundaries = refl

no_word_boundaries : map (λ i. holds (utf8 "é b") i true NotWordBoundary) (0 ∷ 2 ∷ 3 ∷ 4 ∷ []) ≡ false ∷ false ∷ false ∷ false ∷ []
unfolding wide_row
no_word_boundaries = refl

word_starts : map (λ i. holds (utf8 "é b") i true LeftWordBoundary) (0 ∷ 2 ∷ 3 ∷ 4 ∷ []) ≡ true ∷ false ∷ true ∷ false ∷ []
unfolding wide_row
word_starts = refl

word_ends : map (λ i. holds (utf8 "é b") i true RightWordBoundary) (0 ∷ 2 ∷ 3 ∷ 4 ∷ []) ≡ false ∷ true ∷ false ∷ true ∷ []
unfolding wide_row
word_ends = refl

half_word_starts : map (λ i. holds (utf8 "é b") i true LeftWordHalfBoundary) (0 ∷ 2 ∷ 3 ∷ 4 ∷ []) ≡ true ∷ false ∷ true ∷ false ∷ []
unfolding wide_row
half_word_starts = refl

half_word_ends : map (λ i. holds (utf8 "é b") i true RightWordHalfBoundary) (0 ∷ 2 ∷ 3 ∷ 4 ∷ []) ≡ false ∷ true ∷ false ∷ true ∷ []
unfolding wide_row
half_word_ends = refl

word_boundaries_of_ascii : map (λ i. holds (utf8 "éb") i false WordBoundary) (0 ∷ 2 ∷ 3 ∷ []) ≡ false ∷ true ∷ true ∷ []
unfolding wide_row
word_boundaries_of_ascii = refl
