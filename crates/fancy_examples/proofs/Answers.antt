-- Answers: of the meaning, and of runs of both programs.
use Rattle.std.specs.Prelude.{◌≡◌, true, false, [], ◌∷◌, Some, None, codes, refl}
use Rattle.fancy_meaning.specs.Tree.{AbsentRepeater, AtomicGroup, Conditional, ContinueFromPreviousMatchEnd, Control, Empty, Fail, GeneralNewline, StartLineOniguruma}
use Rattle.fancy_meaning.specs.Answer.{answer, search_of}
use Rattle.fancy_meaning.specs.Numbers.{usize_max}
use Rattle.fancy_examples.proofs.Notation.{Answered, plain, anchored, from, utf8, lit, cat, alt, grp, rep, star, lazy_star, dot, assert, ref, has, call, ahead, nahead, behind, nbehind, row}

first_path_found : Answered (plain (cat (lit "a" ∷ grp (alt (lit "b" ∷ lit "bc" ∷ [])) ∷ lit "d" ∷ [])))
    (codes "abcd") (from 0) (Some (0 ∷ 4 ∷ 1 ∷ 3 ∷ []))
unfolding row
first_path_found = (refl, refl, refl)

first_branch_found : Answered (plain (cat (lit "a" ∷ grp (alt (lit "b" ∷ lit "bc" ∷ [])) ∷ lit "d" ∷ [])))
    (codes "abd") (from 0) (Some (0 ∷ 3 ∷ 1 ∷ 2 ∷ []))
unfolding row
first_branch_found = (refl, refl, refl)

no_path_found : Answered (plain (cat (lit "a" ∷ grp (alt (lit "b" ∷ lit "bc" ∷ [])) ∷ lit "d" ∷ []))) (codes "bcd") (from 0) None
unfolding row
no_path_found = (refl, refl, refl)

found_behind_two_starts : Answered (plain (lit "b")) (codes "aab") (from 0) (Some (2 ∷ 3 ∷ []))
unfolding row
found_behind_two_starts = (refl, refl, refl)

found_nowhere : Answered (plain (lit "b")) (codes "aa") (from 0) None
unfolding row
found_nowhere = (refl, refl, refl)

found_from_a_place : Answered (plain (lit "é")) (utf8 "éé") (from 2) (Some (2 ∷ 4 ∷ []))
unfolding row
found_from_a_place = (refl, refl, refl)

look_ahead_is_not_atomic : Answered
    (plain (cat (ahead (cat (grp (alt (lit "a" ∷ lit "ab" ∷ [])) ∷ nahead (lit "x") ∷ [])) ∷ ref 1 ∷ lit "c" ∷ [])))
    (codes "abc") (from 0) (Some (0 ∷ 3 ∷ 0 ∷ 2 ∷ []))
unfolding row
look_ahead_is_not_atomic = (refl, refl, refl)

read_group_keeps_its_ways : Answered
    (plain (cat (ahead (grp (alt (lit "a" ∷ lit "ab" ∷ []))) ∷ ref 1 ∷ lit "c" ∷ []))) (codes "abc") (from 0)
    (Some (0 ∷ 3 ∷ 0 ∷ 2 ∷ []))
unfolding row
read_group_keeps_its_ways = (refl, refl, refl)

reference_in_its_own_group : Answered
    (plain (star 1 (cat (grp (alt (lit "a" ∷ cat (lit "b" ∷ ref 1 ∷ []) ∷ [])) ∷ lit "x" ∷ [])))) (codes "axbax")
    (from 0) (Some (0 ∷ 5 ∷ 2 ∷ 4 ∷ []))
unfolding row
reference_in_its_own_group = (refl, refl, refl)

behind_what_continues : Answered
    (plain (cat (behind (cat (ContinueFromPreviousMatchEnd ∷ lit "a" ∷ [])) ∷ lit "b" ∷ []))) (codes "xxxab") (from 3)
    (Some (4 ∷ 5 ∷ []))
unfolding row
behind_what_continues = (refl, refl, refl)

continues_through_a_call : Answered
    (anchored (cat (grp (cat (ContinueFromPreviousMatchEnd ∷ lit "a" ∷ [])) ∷ alt (call 1 ∷ lit "b" ∷ []) ∷ [])))
    (codes "ab") (from 0) (Some (0 ∷ 2 ∷ 0 ∷ 1 ∷ []))
unfolding row
continues_through_a_call = (refl, refl, refl)

ahead_of_b : Answered (plain (ahead (lit "b"))) (codes "aab") (from 0) (Some (2 ∷ 2 ∷ []))
unfolding row
ahead_of_b = (refl, refl, refl)

nothing_ahead : Answered (plain (nahead (lit "a"))) [] (from 0) (Some (0 ∷ 0 ∷ []))
unfolding row
nothing_ahead = (refl, refl, refl)

empty_on_empty : Answered (plain Empty) [] (from 0) (Some (0 ∷ 0 ∷ []))
unfolding row
empty_on_empty = (refl, refl, refl)

behind_two_bytes : Answered (plain (cat (behind (lit "é") ∷ lit "x" ∷ []))) (utf8 "éx") (from 0) (Some (2 ∷ 3 ∷ []))
unfolding row
behind_two_bytes = (refl, refl, refl)

calls_of_two_groups : Answered
    (plain
    (cat (call 1 ∷ call 2 ∷ grp (alt (cat (lit "x" ∷ call 2 ∷ []) ∷ lit "a" ∷ [])) ∷ grp (cat (lit "y" ∷ call 1 ∷ []))
    ∷ []))) (codes "ayaaya") (from 0) (Some (0 ∷ 6 ∷ 5 ∷ 6 ∷ 4 ∷ 6 ∷ []))
unfolding row
calls_of_two_groups = (refl, refl, refl)

atomic_keeps_its_first_way : Answered
    (plain
    (cat (AtomicGroup (cat (alt (lit "x" ∷ lit "xy" ∷ []) ∷ Conditional (lit "ab") (lit "c") Empty ∷ [])) ∷ lit "z"
    ∷ []))) (codes "xyz") (from 0) None
unfolding row
atomic_keeps_its_first_way = (refl, refl, refl)

open_group_does_not_exist : Answered (plain (grp (cat (lit "a" ∷ Conditional (has 1) (lit "b") (lit "c") ∷ []))))
    (codes "ac") (from 0) (Some (0 ∷ 2 ∷ 0 ∷ 2 ∷ []))
unfolding row
open_group_does_not_exist = (refl, refl, refl)

unset_group_does_not_exist : Answered
    (plain (cat (alt (grp (lit "a") ∷ grp dot ∷ []) ∷ Conditional (has 1) (lit "b") (lit "c") ∷ []))) (codes "ac")
    (from 0) (Some (0 ∷ 2 ∷ usize_max ∷ usize_max ∷ 0 ∷ 1 ∷ []))
unfolding row
unset_group_does_not_exist = (refl, refl, refl)

true_branch_without_way : Answered (plain (Conditional (lit "ab") (lit "c") (lit "d"))) (codes "abd") (from 0) (Some (2 ∷ 3 ∷ []))
unfolding row
true_branch_without_way = (refl, refl, refl)

without_abc : Answered (plain (AbsentRepeater (lit "abc"))) (codes "zzabc") (from 0) (Some (0 ∷ 2 ∷ []))
unfolding row
without_abc = (refl, refl, refl)

newline_is_two_characters : Answered (plain (GeneralNewline true)) (codes "\r\n") (from 0) (Some (0 ∷ 2 ∷ []))
unfolding row
newline_is_two_characters = (refl, refl, refl)

newline_is_one_way : Answered (plain (cat (GeneralNewline true ∷ lit "\n" ∷ []))) (codes "\r\n") (from 0) None
unfolding row
newline_is_one_way = (refl, refl, refl)

twenty_deep : Answered (plain (grp (alt (cat (lit "a" ∷ call 1 ∷ []) ∷ lit "b" ∷ [])))) (codes "aaaaaaaaaaaaaaaaaaab")
    (from 0) (Some (0 ∷ 20 ∷ 0 ∷ 20 ∷ []))
unfolding row
twenty_deep = (refl, refl, refl)

too_deep_by_one : Answered (plain (grp (alt (cat (lit "a" ∷ call 1 ∷ []) ∷ lit "b" ∷ []))))
    (codes "aaaaaaaaaaaaaaaaaaaab") (from 0) (Some (1 ∷ 21 ∷ 1 ∷ 21 ∷ []))
unfolding row
too_deep_by_one = (refl, refl, refl)

call_of_the_whole : Answered (plain (alt (cat (lit "a" ∷ call 0 ∷ []) ∷ lit "b" ∷ []))) (codes "aab") (from 0) (Some (0 ∷ 3 ∷ []))
unfolding row
call_of_the_whole = (refl, refl, refl)

three_at_the_most : Answered (plain (rep 2 3 (lit "ab"))) (codes "abababab") (from 0) (Some (0 ∷ 6 ∷ []))
unfolding row
three_at_the_most = (refl, refl, refl)

lazy_plus : Answered (plain (lazy_star 1 (alt (lit "a" ∷ Empty ∷ [])))) (codes "aa") (from 0) (Some (0 ∷ 1 ∷ []))
unfolding row
lazy_plus = (refl, refl, refl)

empty_iteration_leaves_with_captures : Answered (plain (star 0 (grp (rep 0 1 (lit "a"))))) (codes "a") (from 0) (Some (0 ∷ 1 ∷ 1 ∷ 1 ∷ []))
unfolding row
empty_iteration_leaves_with_captures = (refl, refl, refl)

empty_iterations_first : Answered (plain (star 2 (grp (alt (Empty ∷ lit "a" ∷ []))))) (codes "a") (from 0) (Some (0 ∷ 0 ∷ 0 ∷ 0 ∷ []))
unfolding row
empty_iterations_first = (refl, refl, refl)

counted_loop_has_no_test : Answered (plain (rep 0 3 (grp (rep 0 1 (lit "a"))))) (codes "a") (from 0) (Some (0 ∷ 1 ∷ 1 ∷ 1 ∷ []))
unfolding row
counted_loop_has_no_test = (refl, refl, refl)

loop_keeps_captures : Answered (plain (star 0 (cat (grp (rep 0 1 (lit "a")) ∷ nahead (lit "x") ∷ [])))) (codes "a")
    (from 0) (Some (0 ∷ 1 ∷ 1 ∷ 1 ∷ []))
unfolding row
loop_keeps_captures = (refl, refl, refl)

loop_keeps_captures_when_delegated : Answered (plain (star 0 (grp (rep 0 1 (lit "a"))))) (codes "a") (from 0) (Some (0 ∷ 1 ∷ 1 ∷ 1 ∷ []))
unfolding row
loop_keeps_captures_when_delegated = (refl, refl, refl)

behind_either : Answered (plain (cat (behind (alt (lit "a" ∷ lit "bc" ∷ [])) ∷ lit "x" ∷ []))) (codes "bcx") (from 0) (Some (2 ∷ 3 ∷ []))
unfolding row
behind_either = (refl, refl, refl)

not_behind_either : Answered (plain (cat (nbehind (alt (lit "a" ∷ lit "bc" ∷ [])) ∷ lit "x" ∷ []))) (codes "bcx") (from 0) None
unfolding row
not_behind_either = (refl, refl, refl)

not_behind_any : Answered (plain (cat (nbehind (alt (lit "a" ∷ lit "bc" ∷ [])) ∷ lit "x" ∷ []))) (codes "dx") (from 0) (Some (1 ∷ 2 ∷ []))
unfolding row
not_behind_any = (refl, refl, refl)

not_nothing_ahead : Answered (plain (nahead (nahead (lit "a")))) (codes "a") (from 0) (Some (0 ∷ 0 ∷ []))
unfolding row
not_nothing_ahead = (refl, refl, refl)

not_nothing_ahead_of_b : Answered (plain (nahead (nahead (lit "a")))) (codes "b") (from 0) None
unfolding row
not_nothing_ahead_of_b = (refl, refl, refl)

line_start_in_look_ahead : Answered (plain (ahead (assert (StartLineOniguruma false)))) (codes "a\n") (from 2) (Some (2 ∷ 2 ∷ []))
unfolding row
line_start_in_look_ahead = (refl, refl, refl)

fail_goes_back : Answered (plain (alt (cat (lit "a" ∷ Control Fail ∷ []) ∷ lit "ab" ∷ []))) (codes "ab") (from 0) (Some (0 ∷ 2 ∷ []))
unfolding row
fail_goes_back = (refl, refl, refl)

-- its program is left out, since it takes too long to compute
calls_itself_twice : answer
    (search_of (plain (grp (alt (lit "a" ∷ cat (lit "b" ∷ call 1 ∷ call 1 ∷ []) ∷ [])))) (codes "babaa") (from 0))
    ≡ Some (0 ∷ 5 ∷ 0 ∷ 5 ∷ [])
unfolding row
calls_itself_twice = refl
