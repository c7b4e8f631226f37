-- Answers by the options of a search, and by the kind of a text.
use Rattle.std.specs.Prelude.{true, false, [], ◌∷◌, Some, None, codes, refl}
use Rattle.fancy_meaning.specs.Tree.{AtomicGroup, ContinueFromPreviousMatchEnd, Empty, EndLine, EndText, EndTextIgnoreTrailingNewlines, KeepOut, LiteralBytes, StartLine, StartLineOniguruma}
use Rattle.fancy_examples.proofs.Notation.{Answered, plain, anchored, taking, with_end_text, analysed_end_text, from, not_empty, utf8, lit, cat, alt, grp, star, lazy_star, dot, dot_crlf, any, assert, ahead, nahead, behind, row}

-- ---- the end-of-text option

empty_line_end_is_refused : Answered (with_end_text (assert (EndLine false))) (codes "a\n") (from 2) None
unfolding row
empty_line_end_is_refused = (refl, refl, refl)

text_end_is_asked_for : Answered (with_end_text (assert EndText)) (codes "a\n") (from 2) (Some (2 ∷ 2 ∷ []))
unfolding row
text_end_is_asked_for = (refl, refl, refl)

empty_at_end_is_refused : Answered (with_end_text Empty) (codes "a\n") (from 2) None
unfolding row
empty_at_end_is_refused = (refl, refl, refl)

empty_at_start_is_not : Answered (with_end_text Empty) (codes "a\n") (from 0) (Some (0 ∷ 0 ∷ []))
unfolding row
empty_at_start_is_not = (refl, refl, refl)

flag_does_not_survive_its_branch : Answered
    (with_end_text (alt (cat (assert EndText ∷ lit "x" ∷ []) ∷ assert (EndLine false) ∷ []))) (codes "a\n")
    (from 2) None
unfolding row
flag_does_not_survive_its_branch = (refl, refl, refl)

flag_of_a_look_ahead_stays : Answered (with_end_text (cat (ahead (assert EndText) ∷ assert (EndLine false) ∷ [])))
    (codes "a\n") (from 2) (Some (2 ∷ 2 ∷ []))
unfolding row
flag_of_a_look_ahead_stays = (refl, refl, refl)

flag_of_a_negative_look_does_not : Answered
    (with_end_text (cat (nahead (cat (assert EndText ∷ lit "x" ∷ [])) ∷ assert (EndLine false) ∷ []))) (codes "a\n")
    (from 2) None
unfolding row
flag_of_a_negative_look_does_not = (refl, refl, refl)

newlines_at_end_are_asked_for : Answered
    (with_end_text (cat (assert (EndTextIgnoreTrailingNewlines false) ∷ Empty ∷ []))) (codes "a\n") (from 0)
    (Some (1 ∷ 1 ∷ []))
unfolding row
newlines_at_end_are_asked_for = (refl, refl, refl)

without_newline_before : Answered (with_end_text Empty) (codes "a") (from 1) (Some (1 ∷ 1 ∷ []))
unfolding row
without_newline_before = (refl, refl, refl)

no_newline_is_needed_in_front : Answered (with_end_text Empty) [] (from 0) (Some (0 ∷ 0 ∷ []))
unfolding row
no_newline_is_needed_in_front = (refl, refl, refl)

later_start_past_a_refusal : Answered (with_end_text (star 0 (lit "\n"))) (codes "\n\n") (from 0) (Some (0 ∷ 2 ∷ []))
unfolding row
later_start_past_a_refusal = (refl, refl, refl)

analysed_alone_admits : Answered (analysed_end_text Empty) (codes "a\n") (from 2) (Some (2 ∷ 2 ∷ []))
unfolding row
analysed_alone_admits = (refl, refl, refl)

-- ---- a match that takes something

nothing_is_refused : Answered (taking (nahead (lit "a"))) [] not_empty None
unfolding row
nothing_is_refused = (refl, refl, refl)

greedy_takes_what_it_can : Answered (taking (star 0 (lit "a"))) (codes "baa") not_empty (Some (1 ∷ 3 ∷ []))
unfolding row
greedy_takes_what_it_can = (refl, refl, refl)

lazy_takes_one : Answered (taking (lazy_star 0 (lit "a"))) (codes "baa") not_empty (Some (1 ∷ 2 ∷ []))
unfolding row
lazy_takes_one = (refl, refl, refl)

kept_start_does_not_count : Answered (taking (cat (lit "a" ∷ KeepOut ∷ []))) (codes "a") not_empty (Some (1 ∷ 1 ∷ []))
unfolding row
kept_start_does_not_count = (refl, refl, refl)

second_branch_takes_something : Answered (taking (alt (Empty ∷ lit "a" ∷ []))) (codes "a") not_empty (Some (0 ∷ 1 ∷ []))
unfolding row
second_branch_takes_something = (refl, refl, refl)

delegated_alternation_takes_something : Answered (taking (grp (alt (Empty ∷ lit "a" ∷ [])))) (codes "a") not_empty (Some (0 ∷ 1 ∷ 0 ∷ 1 ∷ []))
unfolding row
delegated_alternation_takes_something = (refl, refl, refl)

analysed_alone_takes_nothing : Answered (taking (lazy_star 0 (lit "a"))) (codes "baa") (from 0) (Some (0 ∷ 0 ∷ []))
unfolding row
analysed_alone_takes_nothing = (refl, refl, refl)

end_in_a_branch : Answered (taking (alt (assert EndText ∷ lit "a" ∷ []))) (codes "a") not_empty (Some (0 ∷ 1 ∷ []))
unfolding row
end_in_a_branch = (refl, refl, refl)

-- ---- kept starts

start_is_kept : Answered (plain (cat (lit "a" ∷ KeepOut ∷ lit "b" ∷ []))) (codes "ab") (from 0) (Some (1 ∷ 2 ∷ []))
unfolding row
start_is_kept = (refl, refl, refl)

start_past_the_end : Answered (plain (cat (ahead (cat (lit "a" ∷ lit "b" ∷ KeepOut ∷ [])) ∷ lit "a" ∷ []))) (codes "ab") (from 0) (Some (1 ∷ 1 ∷ []))
unfolding row
start_past_the_end = (refl, refl, refl)

start_in_an_atomic_group : Answered (plain (AtomicGroup (cat (lit "a" ∷ KeepOut ∷ [])))) (codes "ba") (from 0) (Some (2 ∷ 2 ∷ []))
unfolding row
start_in_an_atomic_group = (refl, refl, refl)

start_of_a_failed_branch : Answered (plain (alt (cat (lit "a" ∷ KeepOut ∷ lit "x" ∷ []) ∷ lit "ab" ∷ []))) (codes "ab") (from 0) (Some (0 ∷ 2 ∷ []))
unfolding row
start_of_a_failed_branch = (refl, refl, refl)

start_of_a_negative_look : Answered (plain (cat (nahead (cat (lit "a" ∷ KeepOut ∷ lit "x" ∷ [])) ∷ lit "a" ∷ [])))
    (codes "ab") (from 0) (Some (0 ∷ 1 ∷ []))
unfolding row
start_of_a_negative_look = (refl, refl, refl)

start_before_the_place_of_the_search : Answered (plain (cat (behind (cat (KeepOut ∷ lit "a" ∷ [])) ∷ lit "b" ∷ [])))
    (codes "ab") (from 1) (Some (0 ∷ 2 ∷ []))
unfolding row
start_before_the_place_of_the_search = (refl, refl, refl)

-- ---- where the match before ended

continues_at_the_place : Answered (plain (cat (ContinueFromPreviousMatchEnd ∷ lit "a" ∷ []))) (codes "ba") (from 1) (Some (1 ∷ 2 ∷ []))
unfolding row
continues_at_the_place = (refl, refl, refl)

continues_nowhere_else : Answered (plain (cat (ContinueFromPreviousMatchEnd ∷ lit "a" ∷ []))) (codes "bba") (from 0) None
unfolding row
continues_nowhere_else = (refl, refl, refl)

is_not_continued : Answered (plain (cat (ContinueFromPreviousMatchEnd ∷ lit "a" ∷ []))) (codes "a") (record (from 0) { continued = false }) None
unfolding row
is_not_continued = (refl, refl, refl)

continues_in_a_later_branch : Answered
    (plain (alt (cat (ContinueFromPreviousMatchEnd ∷ lit "x" ∷ []) ∷ lit "b" ∷ []))) (codes "ab") (from 0)
    (Some (1 ∷ 2 ∷ []))
unfolding row
continues_in_a_later_branch = (refl, refl, refl)

not_ahead_of_continuing : Answered (plain (cat (nahead ContinueFromPreviousMatchEnd ∷ lit "a" ∷ []))) (codes "aa") (from 0) (Some (1 ∷ 2 ∷ []))
unfolding row
not_ahead_of_continuing = (refl, refl, refl)

-- ---- anchored

anchored_run : Answered (plain (lit "b")) (codes "ab") (record (from 0) { anchored = true }) None
unfolding row
anchored_run = (refl, refl, refl)

anchored_run_from_a_place : Answered (plain (lit "b")) (codes "ab") (record (from 1) { anchored = true }) (Some (1 ∷ 2 ∷ []))
unfolding row
anchored_run_from_a_place = (refl, refl, refl)

compiled_anchored : Answered (anchored (lit "b")) (codes "ab") (from 0) None
unfolding row
compiled_anchored = (refl, refl, refl)

both_anchored : Answered (anchored (lit "a")) (codes "ab") (record (from 0) { anchored = true }) (Some (0 ∷ 1 ∷ []))
unfolding row
both_anchored = (refl, refl, refl)

-- ---- the text

any_from_its_start : Answered (plain any) (utf8 "aé€") (from 0) (Some (0 ∷ 1 ∷ []))
unfolding row
any_from_its_start = (refl, refl, refl)

any_of_two_bytes : Answered (plain any) (utf8 "aé€") (from 1) (Some (1 ∷ 3 ∷ []))
unfolding row
any_of_two_bytes = (refl, refl, refl)

any_of_three_bytes : Answered (plain any) (utf8 "aé€") (from 3) (Some (3 ∷ 6 ∷ []))
unfolding row
any_of_three_bytes = (refl, refl, refl)

any_of_four_bytes : Answered (plain any) (utf8 "😀") (from 0) (Some (0 ∷ 4 ∷ []))
unfolding row
any_of_four_bytes = (refl, refl, refl)

any_at_the_end : Answered (plain any) (utf8 "aé") (from 3) None
unfolding row
any_at_the_end = (refl, refl, refl)

two_characters_behind : Answered (plain (behind (cat (any ∷ any ∷ [])))) (utf8 "aé€") (from 0) (Some (3 ∷ 3 ∷ []))
unfolding row
two_characters_behind = (refl, refl, refl)

one_character_behind : Answered (plain (cat (behind any ∷ lit "€" ∷ []))) (utf8 "aé€") (from 0) (Some (3 ∷ 6 ∷ []))
unfolding row
one_character_behind = (refl, refl, refl)

bytes_are_characters : Answered (plain (LiteralBytes (233 ∷ []))) (utf8 "é") (from 0) (Some (0 ∷ 2 ∷ []))
unfolding row
bytes_are_characters = (refl, refl, refl)

dot_past_crlf : Answered (plain dot_crlf) (codes "\r\na") (from 0) (Some (2 ∷ 3 ∷ []))
unfolding row
dot_past_crlf = (refl, refl, refl)

dot_takes_cr : Answered (plain dot) (codes "\r\na") (from 0) (Some (0 ∷ 1 ∷ []))
unfolding row
dot_takes_cr = (refl, refl, refl)

line_start_at_end : Answered (plain (assert (StartLine false))) (codes "a\n") (from 2) (Some (2 ∷ 2 ∷ []))
unfolding row
line_start_at_end = (refl, refl, refl)

oniguruma_line_start_at_end : Answered (plain (assert (StartLineOniguruma false))) (codes "a\n") (from 2) None
unfolding row
oniguruma_line_start_at_end = (refl, refl, refl)

newlines_left : Answered (plain (assert (EndTextIgnoreTrailingNewlines false))) (codes "a\n\n") (from 0) (Some (1 ∷ 1 ∷ []))
unfolding row
newlines_left = (refl, refl, refl)
