-- Layouts: programs with delegates.
use Rattle.std.specs.Prelude.{true, false, [], ◌∷◌, Some, None, refl}
use Rattle.fancy_meaning.specs.Tree.{AbsentRepeater, AtomicGroup, Conditional, DefineGroup, Empty, KeepOut, LiteralBytes, StartLineOniguruma, StartText, WordBoundary, Assert, InLookAhead, Group}
use Rattle.fancy_meaning.specs.Instr.{Instr, End, AnyNoNL, AnyNoCRLF, BeginAtomic, EndAtomic, FailNegativeLookAround, RejectEmptyMatchAtEOFFollowingNewline, LitCasei, Split, SplitUnanchored, Jmp, Save, Save0, Restore, SaveCaptureGroupStart, SaveCaptureGroup, RepeatEpsilon, GoBack, BackrefExistsCondition}
use Rattle.fancy_examples.proofs.Notation.{plain, anchored, explicit, ascii, with_end_text, analysed_end_text, explicit_search, lit, ilit, cat, alt, grp, rep, star, dot, dot_crlf, assert, set, ref, has, call, ahead, nahead, behind, nbehind, row, Lays, code, delegate, absent_delegate}

-- ---- the frame

search_frame : Lays (plain (lit "b")) (SplitUnanchored 3 1 ∷ Instr.Any ∷ Jmp 0 ∷ Save 0 ∷ code "b" ∷ Save 1 ∷ End ∷ [])
unfolding row
search_frame = refl

search_frame_with_group_0 : Lays (explicit_search (lit "b")) (SplitUnanchored 3 1 ∷ Instr.Any ∷ Jmp 0 ∷ code "b" ∷ End ∷ [])
unfolding row
search_frame_with_group_0 = refl

anchored_frame : Lays (anchored (lit "abc")) (Save 0 ∷ code "abc" ∷ Save 1 ∷ End ∷ [])
unfolding row
anchored_frame = refl

empty_frame : Lays (anchored Empty) (Save 0 ∷ Save 1 ∷ End ∷ [])
unfolding row
empty_frame = refl

end_text_frame : Lays (with_end_text (lit "b"))
    (SplitUnanchored 3 1 ∷ Instr.Any ∷ Jmp 0 ∷ Save 0 ∷ code "b" ∷ Save 1 ∷ RejectEmptyMatchAtEOFFollowingNewline
    ∷ End ∷ [])
unfolding row
end_text_frame = refl

-- under the end-of-text option the root is hard where it may take nothing
hard_root_under_end_text : Lays (with_end_text (star 0 (lit "a")))
    (SplitUnanchored 3 1 ∷ Instr.Any ∷ Jmp 0 ∷ Save 0 ∷ Split 5 7 ∷ code "a" ∷ Jmp 4 ∷ Save 1
    ∷ RejectEmptyMatchAtEOFFollowingNewline ∷ End ∷ [])
unfolding row
hard_root_under_end_text = refl

hard_empty_root_under_end_text : Lays (with_end_text Empty)
    (SplitUnanchored 3 1 ∷ Instr.Any ∷ Jmp 0 ∷ Save 0 ∷ Save 1 ∷ RejectEmptyMatchAtEOFFollowingNewline ∷ End ∷ [])
unfolding row
hard_empty_root_under_end_text = refl

-- the option of the analysis alone
analysed_alone_under_end_text : Lays (analysed_end_text (star 0 (lit "a"))) (Save 0 ∷ Split 2 4 ∷ code "a" ∷ Jmp 1 ∷ Save 1 ∷ End ∷ [])
unfolding row
analysed_alone_under_end_text = refl

easy_root_without_end_text : Lays (anchored (star 0 (lit "a"))) (Save 0 ∷ delegate "a*" (star 0 (lit "a") ∷ []) None ∷ Save 1 ∷ End ∷ [])
unfolding row
easy_root_without_end_text = refl

-- ---- batches

alternation_before_a_kept_start : Lays (anchored (cat (alt (lit "a" ∷ lit "bb" ∷ lit "c" ∷ []) ∷ KeepOut ∷ [])))
    (Save 0 ∷ Split 2 4 ∷ code "a" ∷ Jmp 8 ∷ Split 5 7 ∷ code "bb" ∷ Jmp 8 ∷ code "c" ∷ Save 0 ∷ Save 1 ∷ End ∷ [])
unfolding row
alternation_before_a_kept_start = refl

easy_tree_is_one_delegate : Lays (anchored (cat (lit "a" ∷ grp (alt (lit "b" ∷ lit "bc" ∷ [])) ∷ lit "d" ∷ [])))
    (Save 0 ∷ delegate "a(b|bc)d" (cat (lit "a" ∷ Group 1 (alt (lit "b" ∷ lit "bc" ∷ [])) ∷ lit "d" ∷ []) ∷ [])
    (Some (1, 2)) ∷ Save 1 ∷ End ∷ [])
unfolding row
easy_tree_is_one_delegate = refl

definitions_count_groups : Lays (anchored (cat (DefineGroup (grp (lit "a")) ∷ grp (lit "b") ∷ [])))
    (Save 0 ∷ delegate "(b)" (cat (DefineGroup (Group 1 (lit "a")) ∷ Group 2 (lit "b") ∷ []) ∷ []) (Some (1, 3))
    ∷ Save 1 ∷ End ∷ [])
unfolding row
definitions_count_groups = refl

definitions_need_nothing : Lays (explicit (DefineGroup (grp (star 1 (set "\\w"))))) (End ∷ [])
unfolding row
definitions_need_nothing = refl

-- all nodes are literal before the text is empty
literal_of_nothing : Lays (anchored (cat [])) (Save 0 ∷ code "" ∷ Save 1 ∷ End ∷ [])
unfolding row
literal_of_nothing = refl

bytes_of_nothing : Lays (anchored (LiteralBytes [])) (Save 0 ∷ code "" ∷ Save 1 ∷ End ∷ [])
unfolding row
bytes_of_nothing = refl

nested_literals : Lays (anchored (cat (lit "a" ∷ cat (cat [] ∷ lit "b" ∷ lit "c" ∷ []) ∷ lit "d" ∷ []))) (Save 0 ∷ code "abcd" ∷ Save 1 ∷ End ∷ [])
unfolding row
nested_literals = refl

folded_where_its_node_is : Lays (anchored (cat (ilit "a" ∷ lit "b" ∷ [])))
    (Save 0 ∷ LitCasei ((97, true) ∷ (98, false) ∷ []) true ∷ Save 1 ∷ End ∷ [])
unfolding row
folded_where_its_node_is = refl

folded_without_unicode : Lays (ascii (ilit "a"))
    (SplitUnanchored 3 1 ∷ Instr.Any ∷ Jmp 0 ∷ Save 0 ∷ LitCasei ((97, true) ∷ []) false ∷ Save 1 ∷ End ∷ [])
unfolding row
folded_without_unicode = refl

one_any : Lays (anchored dot_crlf) (Save 0 ∷ AnyNoCRLF ∷ Save 1 ∷ End ∷ [])
unfolding row
one_any = refl

one_group_of_any : Lays (explicit (grp (cat (grp dot ∷ call 1 ∷ []))))
    (SaveCaptureGroupStart 0 4 ∷ delegate "(.)" (Group 1 dot ∷ []) (Some (1, 2)) ∷ SaveCaptureGroupStart 1 5 ∷ AnyNoNL
    ∷ SaveCaptureGroup 1 5 ∷ SaveCaptureGroup 0 4 ∷ End ∷ [])
unfolding row
one_group_of_any = refl

assertion_is_a_delegate : Lays (anchored (assert StartText)) (Save 0 ∷ delegate "^" (assert StartText ∷ []) None ∷ Save 1 ∷ End ∷ [])
unfolding row
assertion_is_a_delegate = refl

hard_bytes : Lays (explicit (cat (LiteralBytes (233 ∷ []) ∷ lit "a" ∷ []))) (Instr.Lit (0xc3 ∷ 0xa9 ∷ []) ∷ code "a" ∷ End ∷ [])
unfolding row
hard_bytes = refl

-- ---- contexts

prefix_middle_suffix : Lays
    (anchored (cat (lit "a" ∷ dot ∷ nahead (lit "x") ∷ alt (lit "b" ∷ lit "cd" ∷ []) ∷ lit "e" ∷ [])))
    (Save 0 ∷ delegate "a." (lit "a" ∷ dot ∷ []) None ∷ Split 3 5 ∷ code "x" ∷ FailNegativeLookAround
    ∷ delegate "(?:b|cd)e" (alt (lit "b" ∷ lit "cd" ∷ []) ∷ lit "e" ∷ []) None ∷ Save 1 ∷ End ∷ [])
unfolding row
prefix_middle_suffix = refl

-- what varies before a hard node is written out
easy_before_hard : Lays (anchored (cat (alt (lit "a" ∷ lit "ab" ∷ []) ∷ nahead (lit "x") ∷ lit "c" ∷ [])))
    (Save 0 ∷ Split 2 4 ∷ code "a" ∷ Jmp 5 ∷ code "ab" ∷ Split 6 8 ∷ code "x" ∷ FailNegativeLookAround ∷ code "c"
    ∷ Save 1 ∷ End ∷ [])
unfolding row
easy_before_hard = refl

suffix_in_a_hard_context : Lays
    (anchored (cat (cat (nahead (lit "x") ∷ alt (lit "a" ∷ lit "ab" ∷ []) ∷ []) ∷ nahead (lit "x") ∷ [])))
    (Save 0 ∷ Split 2 4 ∷ code "x" ∷ FailNegativeLookAround ∷ Split 5 7 ∷ code "a" ∷ Jmp 8 ∷ code "ab" ∷ Split 9 11
    ∷ code "x" ∷ FailNegativeLookAround ∷ Save 1 ∷ End ∷ [])
unfolding row
suffix_in_a_hard_context = refl

look_ahead_has_an_easy_context : Lays (explicit (cat (ahead (cat (lit "a" ∷ star 0 (lit "b") ∷ [])) ∷ lit "c" ∷ [])))
    (Save 0 ∷ delegate "ab*" (cat (lit "a" ∷ star 0 (lit "b") ∷ []) ∷ []) None ∷ Restore 0 ∷ code "c" ∷ End ∷ [])
unfolding row
look_ahead_has_an_easy_context = refl

negative_look_ahead_first : Lays
    (explicit (cat (nahead (lit "x") ∷ alt (lit "a" ∷ lit "ab" ∷ []) ∷ star 0 (lit "x") ∷ [])))
    (Split 1 3 ∷ code "x" ∷ FailNegativeLookAround
    ∷ delegate "(?:a|ab)x*" (alt (lit "a" ∷ lit "ab" ∷ []) ∷ star 0 (lit "x") ∷ []) None ∷ End ∷ [])
unfolding row
negative_look_ahead_first = refl

read_group_has_a_hard_context : Lays
    (anchored (cat (ahead (grp (alt (lit "a" ∷ lit "ab" ∷ []))) ∷ ref 1 ∷ lit "c" ∷ [])))
    (Save 0 ∷ Save 4 ∷ SaveCaptureGroupStart 1 5 ∷ Split 4 6 ∷ code "a" ∷ Jmp 7 ∷ code "ab" ∷ SaveCaptureGroup 1 5
    ∷ Restore 4 ∷ Instr.Backref 2 false true ∷ code "c" ∷ Save 1 ∷ End ∷ [])
unfolding row
read_group_has_a_hard_context = refl

group_that_is_asked_for : Lays (anchored (cat (grp (lit "a") ∷ has 1 ∷ [])))
    (Save 0 ∷ SaveCaptureGroupStart 1 4 ∷ code "a" ∷ SaveCaptureGroup 1 4 ∷ BackrefExistsCondition 1 ∷ Save 1 ∷ End
    ∷ [])
unfolding row
group_that_is_asked_for = refl

loop_makes_its_body_hard : Lays (explicit (rep 2 2 (cat (nahead (lit "x") ∷ alt (lit "a" ∷ lit "ab" ∷ []) ∷ []))))
    (Save0 0 ∷ Instr.Repeat true 2 (Some 2) 10 0 ∷ Split 3 5 ∷ code "x" ∷ FailNegativeLookAround ∷ Split 6 8
    ∷ code "a" ∷ Jmp 9 ∷ code "ab" ∷ Jmp 1 ∷ End ∷ [])
unfolding row
loop_makes_its_body_hard = refl

at_most_once_passes_its_context : Lays
    (explicit (rep 0 1 (cat (nahead (lit "x") ∷ alt (lit "a" ∷ lit "ab" ∷ []) ∷ []))))
    (Split 1 5 ∷ Split 2 4 ∷ code "x" ∷ FailNegativeLookAround
    ∷ delegate "(?:a|ab)" (alt (lit "a" ∷ lit "ab" ∷ []) ∷ []) None ∷ End ∷ [])
unfolding row
at_most_once_passes_its_context = refl

conditional : Lays (explicit (Conditional (lit "ab") (lit "c") (lit "d")))
    (BeginAtomic ∷ Split 2 6 ∷ code "ab" ∷ EndAtomic ∷ code "c" ∷ Jmp 8 ∷ EndAtomic ∷ code "d" ∷ End ∷ [])
unfolding row
conditional = refl

conditional_of_letters : Lays (explicit (Conditional (lit "a") (lit "c") (lit "d")))
    (BeginAtomic ∷ Split 2 6 ∷ code "a" ∷ EndAtomic ∷ code "c" ∷ Jmp 8 ∷ EndAtomic ∷ code "d" ∷ End ∷ [])
unfolding row
conditional_of_letters = refl

conditional_passes_its_context : Lays (explicit (Conditional (alt (lit "a" ∷ lit "ab" ∷ [])) (star 0 (lit "c")) dot))
    (BeginAtomic ∷ Split 2 6 ∷ delegate "(?:a|ab)" (alt (lit "a" ∷ lit "ab" ∷ []) ∷ []) None ∷ EndAtomic
    ∷ delegate "c*" (star 0 (lit "c") ∷ []) None ∷ Jmp 8 ∷ EndAtomic ∷ AnyNoNL ∷ End ∷ [])
unfolding row
conditional_passes_its_context = refl

atomic_has_an_easy_context : Lays (explicit (AtomicGroup (alt (lit "a" ∷ lit "ab" ∷ []))))
    (BeginAtomic ∷ delegate "(?:a|ab)" (alt (lit "a" ∷ lit "ab" ∷ []) ∷ []) None ∷ EndAtomic ∷ End ∷ [])
unfolding row
atomic_has_an_easy_context = refl

-- ---- look-around

behind_a_word_edge : Lays (explicit (cat (behind (cat (assert WordBoundary ∷ lit "a" ∷ [])) ∷ lit "b" ∷ [])))
    (Save 0 ∷ GoBack 1 ∷ Instr.Assert WordBoundary ∷ code "a" ∷ Restore 0 ∷ code "b" ∷ End ∷ [])
unfolding row
behind_a_word_edge = refl

-- no character back is written too
behind_nothing : Lays (explicit (behind Empty)) (Save 0 ∷ GoBack 0 ∷ Restore 0 ∷ End ∷ [])
unfolding row
behind_nothing = refl

behind_branches_of_one_size : Lays (explicit (behind (alt (lit "ab" ∷ lit "cd" ∷ []))))
    (Save 0 ∷ GoBack 2 ∷ delegate "(?:ab|cd)" (alt (lit "ab" ∷ lit "cd" ∷ []) ∷ []) None ∷ Restore 0 ∷ End ∷ [])
unfolding row
behind_branches_of_one_size = refl

behind_branches_of_two_sizes : Lays (explicit (behind (alt (lit "a" ∷ lit "bc" ∷ []))))
    (Split 1 6 ∷ Save 0 ∷ GoBack 1 ∷ code "a" ∷ Restore 0 ∷ Jmp 10 ∷ Save 1 ∷ GoBack 2 ∷ code "bc" ∷ Restore 1 ∷ End
    ∷ [])
unfolding row
behind_branches_of_two_sizes = refl

not_behind_branches_of_two_sizes : Lays (explicit (nbehind (alt (lit "a" ∷ lit "bc" ∷ []))))
    (Split 1 4 ∷ GoBack 1 ∷ code "a" ∷ FailNegativeLookAround ∷ Split 5 8 ∷ GoBack 2 ∷ code "bc"
    ∷ FailNegativeLookAround ∷ End ∷ [])
unfolding row
not_behind_branches_of_two_sizes = refl

line_start_within_look_ahead : Lays
    (explicit (cat (ahead (assert (StartLineOniguruma false)) ∷ assert (StartLineOniguruma false) ∷ [])))
    (Save 0 ∷ delegate "(?m:^)" (Assert InLookAhead (StartLineOniguruma false) ∷ []) None ∷ Restore 0
    ∷ Instr.Assert (StartLineOniguruma false) ∷ End ∷ [])
unfolding row
line_start_within_look_ahead = refl

-- ---- loops

never_entered : Lays (explicit (rep 0 0 (cat (set "[a" ∷ KeepOut ∷ [])))) (End ∷ [])
unfolding row
never_entered = refl

loops_of_a_hard_body : Lays (explicit (star 0 (cat (lit "a" ∷ nahead (lit "x") ∷ []))))
    (Split 1 6 ∷ code "a" ∷ Split 3 5 ∷ code "x" ∷ FailNegativeLookAround ∷ Jmp 0 ∷ End ∷ [])
unfolding row
loops_of_a_hard_body = refl

absent_easy : Lays (explicit (AbsentRepeater (lit "abc"))) (absent_delegate "abc" (lit "abc" ∷ []) None ∷ End ∷ [])
unfolding row
absent_easy = refl

-- the delegate is made though its text is empty
absent_empty_text : Lays (explicit (AbsentRepeater Empty)) (absent_delegate "" (Empty ∷ []) None ∷ End ∷ [])
unfolding row
absent_empty_text = refl

absent_hard : Lays (explicit (AbsentRepeater (nahead (lit "x"))))
    (Save0 0 ∷ RepeatEpsilon true 0 14 0 1 ∷ BeginAtomic ∷ Split 4 12 ∷ Split 5 9 ∷ Split 6 8 ∷ code "x"
    ∷ FailNegativeLookAround ∷ FailNegativeLookAround ∷ EndAtomic ∷ Instr.Any ∷ Jmp 13 ∷ EndAtomic ∷ Jmp 1 ∷ End ∷ [])
unfolding row
absent_hard = refl
