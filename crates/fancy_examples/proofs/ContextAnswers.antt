-- Answers that delegation must not change, captures, calls, absent repeaters and counts.
use Rattle.std.specs.Prelude.{◌-◌, ◌^◌, [], ◌∷◌, Some, None, codes, refl}
use Rattle.fancy_meaning.specs.Tree.{AbsentRepeater, Conditional, DefineGroup, Empty}
use Rattle.fancy_meaning.specs.Numbers.{usize_max}
use Rattle.fancy_examples.proofs.Notation.{Answered, plain, from, utf8, lit, cat, alt, grp, rep, star, lazy, lazy_star, any, ref, call, ahead, nahead, behind, row}

-- ---- what a hard context is for

read_body_keeps_its_ways : Answered (plain (cat (ahead (grp (alt (lit "a" ∷ lit "ab" ∷ []))) ∷ ref 1 ∷ lit "c" ∷ [])))
    (codes "abc") (from 0) (Some (0 ∷ 3 ∷ 0 ∷ 2 ∷ []))
unfolding row
read_body_keeps_its_ways = (refl, refl, refl)

prefix_has_a_constant_size : Answered (plain (cat (alt (lit "a" ∷ lit "ab" ∷ []) ∷ nahead (lit "x") ∷ lit "c" ∷ [])))
    (codes "abc") (from 0) (Some (0 ∷ 3 ∷ []))
unfolding row
prefix_has_a_constant_size = (refl, refl, refl)

middle_has_a_hard_context : Answered
    (plain
    (cat (nahead (lit "x") ∷ cat (alt (lit "a" ∷ lit "ab" ∷ []) ∷ cat (nahead (lit "x") ∷ lit "c" ∷ []) ∷ []) ∷ [])))
    (codes "abc") (from 0) (Some (0 ∷ 3 ∷ []))
unfolding row
middle_has_a_hard_context = (refl, refl, refl)

body_of_a_loop_has_a_hard_context : Answered
    (plain (rep 2 2 (cat (nahead (lit "x") ∷ alt (lit "a" ∷ lit "ab" ∷ lit "c" ∷ []) ∷ [])))) (codes "abc") (from 0)
    (Some (0 ∷ 3 ∷ []))
unfolding row
body_of_a_loop_has_a_hard_context = (refl, refl, refl)

suffix_in_a_hard_context_is_constant : Answered
    (plain
    (cat (cat (nahead (lit "x") ∷ alt (lit "a" ∷ lit "ab" ∷ []) ∷ []) ∷ cat (nahead (lit "x") ∷ lit "c" ∷ []) ∷ [])))
    (codes "abc") (from 0) (Some (0 ∷ 3 ∷ []))
unfolding row
suffix_in_a_hard_context_is_constant = (refl, refl, refl)

call_of_a_read_group_keeps_its_ways : Answered
    (plain (cat (ahead (call 1) ∷ ref 1 ∷ lit "c" ∷ DefineGroup (grp (alt (lit "a" ∷ lit "ab" ∷ []))) ∷ [])))
    (codes "abc") (from 0) (Some (0 ∷ 3 ∷ 0 ∷ 2 ∷ []))
unfolding row
call_of_a_read_group_keeps_its_ways = (refl, refl, refl)

hard_alternation_in_a_loop : Answered
    (plain (cat (star 1 (cat (alt (lit "a" ∷ lit "ab" ∷ []) ∷ nahead (lit "x") ∷ [])) ∷ lit "c" ∷ [])))
    (codes "aababc") (from 0) (Some (0 ∷ 6 ∷ []))
unfolding row
hard_alternation_in_a_loop = (refl, refl, refl)

conditional_before_a_letter : Answered
    (plain (cat (Conditional (ahead (lit "a")) (alt (lit "a" ∷ lit "ab" ∷ [])) (lit "x") ∷ lit "c" ∷ [])))
    (codes "abc") (from 0) (Some (0 ∷ 3 ∷ []))
unfolding row
conditional_before_a_letter = (refl, refl, refl)

option_before_a_letter : Answered
    (plain (cat (rep 0 1 (cat (alt (lit "a" ∷ lit "ab" ∷ []) ∷ nahead (lit "x") ∷ [])) ∷ lit "c" ∷ []))) (codes "abc")
    (from 0) (Some (0 ∷ 3 ∷ []))
unfolding row
option_before_a_letter = (refl, refl, refl)

-- ---- captures

look_ahead_goes_back_into_its_group : Answered
    (plain (cat (ahead (grp (star 1 (lit "a"))) ∷ star 0 (lit "a") ∷ lit "b" ∷ ref 1 ∷ []))) (codes "baaabac")
    (from 0) (Some (1 ∷ 6 ∷ 1 ∷ 2 ∷ []))
unfolding row
look_ahead_goes_back_into_its_group = (refl, refl, refl)

call_leaves_its_capture : Answered (plain (cat (grp (alt (lit "a" ∷ lit "b" ∷ [])) ∷ call 1 ∷ ref 1 ∷ [])))
    (codes "abb") (from 0) (Some (0 ∷ 3 ∷ 1 ∷ 2 ∷ []))
unfolding row
call_leaves_its_capture = (refl, refl, refl)

call_in_a_look_ahead_leaves_its_capture : Answered (plain (cat (grp any ∷ ahead (call 1) ∷ any ∷ []))) (codes "ab")
    (from 0) (Some (0 ∷ 2 ∷ 1 ∷ 2 ∷ []))
unfolding row
call_in_a_look_ahead_leaves_its_capture = (refl, refl, refl)

negative_look_leaves_no_capture : Answered (plain (cat (nahead (cat (grp (lit "a") ∷ lit "x" ∷ [])) ∷ lit "a" ∷ [])))
    (codes "ab") (from 0) (Some (0 ∷ 1 ∷ usize_max ∷ usize_max ∷ []))
unfolding row
negative_look_leaves_no_capture = (refl, refl, refl)

condition_leaves_its_capture : Answered (plain (Conditional (grp (lit "a")) (ref 1) (lit "b"))) (codes "aa") (from 0) (Some (0 ∷ 2 ∷ 0 ∷ 1 ∷ []))
unfolding row
condition_leaves_its_capture = (refl, refl, refl)

failed_condition_leaves_no_capture : Answered
    (plain (Conditional (cat (grp (lit "a") ∷ lit "x" ∷ [])) (lit "c") (lit "ab"))) (codes "ab") (from 0)
    (Some (0 ∷ 2 ∷ usize_max ∷ usize_max ∷ []))
unfolding row
failed_condition_leaves_no_capture = (refl, refl, refl)

failed_branch_leaves_no_capture : Answered
    (plain (alt (cat (grp (lit "a") ∷ lit "x" ∷ []) ∷ cat (lit "a" ∷ grp (lit "b") ∷ []) ∷ []))) (codes "ab") (from 0)
    (Some (0 ∷ 2 ∷ usize_max ∷ usize_max ∷ 1 ∷ 2 ∷ []))
unfolding row
failed_branch_leaves_no_capture = (refl, refl, refl)

last_iteration_is_captured : Answered (plain (star 0 (grp (alt (lit "a" ∷ lit "b" ∷ []))))) (codes "ab") (from 0) (Some (0 ∷ 2 ∷ 1 ∷ 2 ∷ []))
unfolding row
last_iteration_is_captured = (refl, refl, refl)

capture_of_an_earlier_iteration_stays : Answered (plain (star 0 (alt (grp (lit "a") ∷ grp (lit "b") ∷ []))))
    (codes "ab") (from 0) (Some (0 ∷ 2 ∷ 0 ∷ 1 ∷ 1 ∷ 2 ∷ []))
unfolding row
capture_of_an_earlier_iteration_stays = (refl, refl, refl)

capture_behind : Answered (plain (cat (behind (grp (lit "a")) ∷ lit "b" ∷ []))) (codes "ab") (from 0) (Some (1 ∷ 2 ∷ 0 ∷ 1 ∷ []))
unfolding row
capture_behind = (refl, refl, refl)

absent_captures_nothing : Answered (plain (AbsentRepeater (grp (lit "b")))) (codes "ab") (from 0) (Some (0 ∷ 1 ∷ usize_max ∷ usize_max ∷ []))
unfolding row
absent_captures_nothing = (refl, refl, refl)

definitions_capture_when_called : Answered (plain (cat (DefineGroup (grp any) ∷ lit "a" ∷ call 1 ∷ []))) (codes "ab")
    (from 0) (Some (0 ∷ 2 ∷ 1 ∷ 2 ∷ []))
unfolding row
definitions_capture_when_called = (refl, refl, refl)

reference_to_an_unset_group : Answered (plain (alt (cat (ref 1 ∷ lit "a" ∷ []) ∷ grp (lit "b") ∷ []))) (codes "ab")
    (from 0) (Some (1 ∷ 2 ∷ 1 ∷ 2 ∷ []))
unfolding row
reference_to_an_unset_group = (refl, refl, refl)

reference_to_nothing_captured : Answered (plain (cat (grp Empty ∷ ref 1 ∷ lit "a" ∷ []))) (codes "a") (from 0) (Some (0 ∷ 1 ∷ 0 ∷ 0 ∷ []))
unfolding row
reference_to_nothing_captured = (refl, refl, refl)

-- ---- calls and absent repeaters

absent_of_a_called_absent : Answered
    (plain (cat (AbsentRepeater (call 1) ∷ DefineGroup (grp (cat (lit "b" ∷ AbsentRepeater (lit "a") ∷ []))) ∷ [])))
    (codes "abb") (from 0) (Some (0 ∷ 1 ∷ usize_max ∷ usize_max ∷ []))
unfolding row
absent_of_a_called_absent = (refl, refl, refl)

absent_at_the_end : Answered (plain (AbsentRepeater (lit "b"))) (codes "aa") (from 0) (Some (0 ∷ 2 ∷ []))
unfolding row
absent_at_the_end = (refl, refl, refl)

absent_goes_back_one_at_a_time : Answered (plain (cat (AbsentRepeater (lit "c") ∷ lit "b" ∷ []))) (codes "abbc") (from 0) (Some (0 ∷ 3 ∷ []))
unfolding row
absent_goes_back_one_at_a_time = (refl, refl, refl)

absent_of_nothing : Answered (plain (AbsentRepeater Empty)) (codes "ab") (from 0) (Some (0 ∷ 0 ∷ []))
unfolding row
absent_of_nothing = (refl, refl, refl)

absent_past_a_character_of_two_bytes : Answered (plain (cat (AbsentRepeater (lit "b") ∷ lit "é" ∷ []))) (utf8 "aéb") (from 0) (Some (0 ∷ 3 ∷ []))
unfolding row
absent_past_a_character_of_two_bytes = (refl, refl, refl)

definitions_keep_their_numbers : Answered (plain (cat (DefineGroup (grp (lit "a")) ∷ grp (lit "b") ∷ []))) (codes "b")
    (from 0) (Some (0 ∷ 1 ∷ usize_max ∷ usize_max ∷ 0 ∷ 1 ∷ []))
unfolding row
definitions_keep_their_numbers = (refl, refl, refl)

call_past_definitions : Answered (plain (cat (call 1 ∷ DefineGroup (grp (star 1 (lit "a"))) ∷ []))) (codes "aab") (from 0) (Some (0 ∷ 2 ∷ 0 ∷ 2 ∷ []))
unfolding row
call_past_definitions = (refl, refl, refl)

call_under_never : Answered (plain (cat (rep 0 0 (call 1) ∷ grp (lit "a") ∷ []))) (codes "a") (from 0) (Some (0 ∷ 1 ∷ 0 ∷ 1 ∷ []))
unfolding row
call_under_never = (refl, refl, refl)

-- ---- texts and counts

count_that_no_text_reaches : Answered (plain (star (2 ^ 64 - 2) (lit "ab"))) (codes "abab") (from 0) None
unfolding row
count_that_no_text_reaches = (refl, refl, refl)

smallest_of_four : Answered (plain any) (utf8 "aé€😀") (from 0) (Some (0 ∷ 1 ∷ []))
unfolding row
smallest_of_four = (refl, refl, refl)

last_of_four : Answered (plain any) (utf8 "aé€😀") (from 6) (Some (6 ∷ 10 ∷ []))
unfolding row
last_of_four = (refl, refl, refl)

past_the_last_of_four : Answered (plain any) (utf8 "aé€😀") (from 10) None
unfolding row
past_the_last_of_four = (refl, refl, refl)

two_behind_of_four : Answered (plain (behind (cat (any ∷ any ∷ [])))) (utf8 "aé€😀") (from 0) (Some (3 ∷ 3 ∷ []))
unfolding row
two_behind_of_four = (refl, refl, refl)

never_entered_is_not_refused : Answered
    (plain (cat (rep 0 0 (cat (behind (cat (lit "a" ∷ star 1 (lit "b") ∷ [])) ∷ lit "x" ∷ [])) ∷ lit "y" ∷ [])))
    (codes "y") (from 0) (Some (0 ∷ 1 ∷ []))
unfolding row
never_entered_is_not_refused = (refl, refl, refl)

-- ---- lazy loops

lazy_star_stops_first : Answered (plain (cat (lazy_star 0 any ∷ lit "b" ∷ []))) (codes "aabb") (from 0) (Some (0 ∷ 3 ∷ []))
unfolding row
lazy_star_stops_first = (refl, refl, refl)

lazy_count_stops_first : Answered (plain (lazy 1 3 (lit "a"))) (codes "aaa") (from 0) (Some (0 ∷ 1 ∷ []))
unfolding row
lazy_count_stops_first = (refl, refl, refl)

lazy_option_stops_first : Answered (plain (cat (lazy 0 1 (lit "a") ∷ lit "b" ∷ []))) (codes "ab") (from 0) (Some (0 ∷ 2 ∷ []))
unfolding row
lazy_option_stops_first = (refl, refl, refl)

lazy_empty_iteration : Answered (plain (cat (lazy_star 0 (grp (alt (Empty ∷ lit "a" ∷ []))) ∷ lit "b" ∷ [])))
    (codes "ab") (from 0) (Some (0 ∷ 2 ∷ 0 ∷ 1 ∷ []))
unfolding row
lazy_empty_iteration = (refl, refl, refl)
