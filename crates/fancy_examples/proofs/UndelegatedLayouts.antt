-- Layouts without delegates: every node is written out.
use Rattle.std.specs.Prelude.{true, false, [], ◌∷◌, Some, None, refl}
use Rattle.fancy_meaning.specs.Tree.{AbsentRepeater, AtomicGroup, Conditional, ContinueFromPreviousMatchEnd, Control, DefineGroup, Empty, Fail, GeneralNewline, KeepOut, StartLine, StartLineOniguruma}
use Rattle.fancy_meaning.specs.Instr.{Instr, End, AnyNoNL, BeginAtomic, EndAtomic, FailNegativeLookAround, Class, Split, SplitUnanchored, Jmp, Save, Save0, Restore, SaveCaptureGroupStart, SaveCaptureGroup, RepeatEpsilon, GoBack, BackrefExistsCondition, Newline}
use Rattle.fancy_examples.proofs.Notation.{anchored, explicit, ascii, lit, cat, alt, grp, rep, star, lazy, lazy_star, dot, any, assert, iref, has, call, ahead, nahead, behind, nbehind, row, code, Undelegated}

first_path_written_out : Undelegated (anchored (cat (lit "a" ∷ grp (alt (lit "b" ∷ lit "bc" ∷ [])) ∷ lit "d" ∷ [])))
    (Save 0 ∷ code "a" ∷ SaveCaptureGroupStart 1 4 ∷ Split 4 6 ∷ code "b" ∷ Jmp 8 ∷ code "b" ∷ code "c"
    ∷ SaveCaptureGroup 1 4 ∷ code "d" ∷ Save 1 ∷ End ∷ [])
unfolding row
first_path_written_out = refl

optional_body_of_a_loop : Undelegated (explicit (star 0 (grp (rep 0 1 (lit "a")))))
    (Save0 2 ∷ RepeatEpsilon true 0 7 2 3 ∷ SaveCaptureGroupStart 0 4 ∷ Split 4 5 ∷ code "a" ∷ SaveCaptureGroup 0 4
    ∷ Jmp 1 ∷ End ∷ [])
unfolding row
optional_body_of_a_loop = refl

calls_write_the_body_anew : Undelegated (explicit (grp (cat (grp dot ∷ call 1 ∷ []))))
    (SaveCaptureGroupStart 0 4 ∷ SaveCaptureGroupStart 1 5 ∷ AnyNoNL ∷ SaveCaptureGroup 1 5
    ∷ SaveCaptureGroupStart 1 6 ∷ AnyNoNL ∷ SaveCaptureGroup 1 6 ∷ SaveCaptureGroup 0 4 ∷ End ∷ [])
unfolding row
calls_write_the_body_anew = refl

branches_jump_past_the_last : Undelegated (explicit (alt (lit "a" ∷ lit "b" ∷ lit "c" ∷ Empty ∷ [])))
    (Split 1 3 ∷ code "a" ∷ Jmp 9 ∷ Split 4 6 ∷ code "b" ∷ Jmp 9 ∷ Split 7 9 ∷ code "c" ∷ Jmp 9 ∷ End ∷ [])
unfolding row
branches_jump_past_the_last = refl

-- ---- loops

never : Undelegated (explicit (rep 0 0 (lit "a"))) (End ∷ [])
unfolding row
never = refl

at_most_once_greedy : Undelegated (explicit (rep 0 1 (lit "a"))) (Split 1 2 ∷ code "a" ∷ End ∷ [])
unfolding row
at_most_once_greedy = refl

at_most_once_lazy : Undelegated (explicit (lazy 0 1 (lit "a"))) (Split 2 1 ∷ code "a" ∷ End ∷ [])
unfolding row
at_most_once_lazy = refl

at_most_once_of_nothing : Undelegated (explicit (rep 0 1 KeepOut)) (Split 1 2 ∷ Save 0 ∷ End ∷ [])
unfolding row
at_most_once_of_nothing = refl

star_greedy : Undelegated (explicit (star 0 (lit "a"))) (Split 1 3 ∷ code "a" ∷ Jmp 0 ∷ End ∷ [])
unfolding row
star_greedy = refl

star_lazy : Undelegated (explicit (lazy_star 0 (lit "a"))) (Split 3 1 ∷ code "a" ∷ Jmp 0 ∷ End ∷ [])
unfolding row
star_lazy = refl

plus_greedy : Undelegated (explicit (star 1 (lit "a"))) (code "a" ∷ Split 0 2 ∷ End ∷ [])
unfolding row
plus_greedy = refl

plus_lazy : Undelegated (explicit (lazy_star 1 (lit "a"))) (code "a" ∷ Split 2 0 ∷ End ∷ [])
unfolding row
plus_lazy = refl

two_or_more : Undelegated (explicit (star 2 (lit "a"))) (Save0 0 ∷ Instr.Repeat true 2 None 4 0 ∷ code "a" ∷ Jmp 1 ∷ End ∷ [])
unfolding row
two_or_more = refl

counted_greedy : Undelegated (explicit (rep 2 3 (lit "a"))) (Save0 0 ∷ Instr.Repeat true 2 (Some 3) 4 0 ∷ code "a" ∷ Jmp 1 ∷ End ∷ [])
unfolding row
counted_greedy = refl

counted_lazy : Undelegated (explicit (lazy 0 2 (lit "a"))) (Save0 0 ∷ Instr.Repeat false 0 (Some 2) 4 0 ∷ code "a" ∷ Jmp 1 ∷ End ∷ [])
unfolding row
counted_lazy = refl

exactly_once_is_counted : Undelegated (explicit (rep 1 1 (lit "a"))) (Save0 0 ∷ Instr.Repeat true 1 (Some 1) 4 0 ∷ code "a" ∷ Jmp 1 ∷ End ∷ [])
unfolding row
exactly_once_is_counted = refl

counted_body_of_nothing : Undelegated (explicit (rep 0 2 Empty)) (Save0 0 ∷ Instr.Repeat true 0 (Some 2) 3 0 ∷ Jmp 1 ∷ End ∷ [])
unfolding row
counted_body_of_nothing = refl

unbounded_body_of_nothing : Undelegated (explicit (star 1 Empty)) (Save0 0 ∷ RepeatEpsilon true 1 3 0 1 ∷ Jmp 1 ∷ End ∷ [])
unfolding row
unbounded_body_of_nothing = refl

unbounded_lazy_body_of_nothing : Undelegated (explicit (lazy_star 0 KeepOut)) (Save0 0 ∷ RepeatEpsilon false 0 4 0 1 ∷ Save 0 ∷ Jmp 1 ∷ End ∷ [])
unfolding row
unbounded_lazy_body_of_nothing = refl

loops_take_slots_in_turn : Undelegated (explicit (rep 2 2 (star 0 (alt (lit "a" ∷ Empty ∷ [])))))
    (Save0 0 ∷ Instr.Repeat true 2 (Some 2) 9 0 ∷ Save0 1 ∷ RepeatEpsilon true 0 8 1 2 ∷ Split 5 7 ∷ code "a" ∷ Jmp 7
    ∷ Jmp 3 ∷ Jmp 1 ∷ End ∷ [])
unfolding row
loops_take_slots_in_turn = refl

-- ---- look-around, atomic groups, newlines, absent repeaters

ahead_keeps_its_place : Undelegated (explicit (cat (ahead (lit "a") ∷ ahead (lit "b") ∷ [])))
    (Save 0 ∷ code "a" ∷ Restore 0 ∷ Save 1 ∷ code "b" ∷ Restore 1 ∷ End ∷ [])
unfolding row
ahead_keeps_its_place = refl

not_ahead : Undelegated (explicit (nahead (lit "ab"))) (Split 1 4 ∷ code "a" ∷ code "b" ∷ FailNegativeLookAround ∷ End ∷ [])
unfolding row
not_ahead = refl

behind_goes_back : Undelegated (explicit (behind (cat (lit "a" ∷ any ∷ [])))) (Save 0 ∷ GoBack 2 ∷ code "a" ∷ Instr.Any ∷ Restore 0 ∷ End ∷ [])
unfolding row
behind_goes_back = refl

not_behind_goes_back : Undelegated (explicit (nbehind (lit "é")))
    (Split 1 4 ∷ GoBack 1 ∷ Instr.Lit (0xc3 ∷ 0xa9 ∷ []) ∷ FailNegativeLookAround ∷ End ∷ [])
unfolding row
not_behind_goes_back = refl

behind_constant_branches : Undelegated (explicit (behind (alt (lit "a" ∷ lit "b" ∷ []))))
    (Save 0 ∷ GoBack 1 ∷ Split 3 5 ∷ code "a" ∷ Jmp 6 ∷ code "b" ∷ Restore 0 ∷ End ∷ [])
unfolding row
behind_constant_branches = refl

atomic_marks : Undelegated (explicit (AtomicGroup (alt (lit "a" ∷ lit "b" ∷ []))))
    (BeginAtomic ∷ Split 2 4 ∷ code "a" ∷ Jmp 5 ∷ code "b" ∷ EndAtomic ∷ End ∷ [])
unfolding row
atomic_marks = refl

newline : Undelegated (explicit (GeneralNewline true))
    (BeginAtomic ∷ Split 2 4 ∷ Instr.Lit (13 ∷ 10 ∷ []) ∷ Jmp 5 ∷ Class (Newline true) ∷ EndAtomic ∷ End ∷ [])
unfolding row
newline = refl

newline_of_ascii : Undelegated (explicit (GeneralNewline false))
    (BeginAtomic ∷ Split 2 4 ∷ Instr.Lit (13 ∷ 10 ∷ []) ∷ Jmp 5 ∷ Class (Newline false) ∷ EndAtomic ∷ End ∷ [])
unfolding row
newline_of_ascii = refl

absent_written_out : Undelegated (explicit (AbsentRepeater (lit "a")))
    (Save0 0 ∷ RepeatEpsilon true 0 12 0 1 ∷ BeginAtomic ∷ Split 4 10 ∷ Split 5 7 ∷ code "a" ∷ FailNegativeLookAround
    ∷ EndAtomic ∷ Instr.Any ∷ Jmp 11 ∷ EndAtomic ∷ Jmp 1 ∷ End ∷ [])
unfolding row
absent_written_out = refl

line_start_in_look_ahead : Undelegated
    (explicit (cat (ahead (assert (StartLineOniguruma true)) ∷ assert (StartLineOniguruma true) ∷ [])))
    (Save 0 ∷ Instr.Assert (StartLine true) ∷ Restore 0 ∷ Instr.Assert (StartLineOniguruma true) ∷ End ∷ [])
unfolding row
line_start_in_look_ahead = refl

no_definition_is_written : Undelegated (explicit (cat (DefineGroup (grp (lit "a")) ∷ lit "b" ∷ []))) (code "b" ∷ End ∷ [])
unfolding row
no_definition_is_written = refl

one_conditional : Undelegated (explicit (Conditional (has 0) (grp (lit "a")) Empty))
    (BeginAtomic ∷ Split 2 8 ∷ BackrefExistsCondition 0 ∷ EndAtomic ∷ SaveCaptureGroupStart 0 2 ∷ code "a"
    ∷ SaveCaptureGroup 0 2 ∷ Jmp 9 ∷ EndAtomic ∷ End ∷ [])
unfolding row
one_conditional = refl

folded_reference : Undelegated (explicit (cat (grp (lit "a") ∷ iref 0 ∷ [])))
    (SaveCaptureGroupStart 0 2 ∷ code "a" ∷ SaveCaptureGroup 0 2 ∷ Instr.Backref 0 true true ∷ End ∷ [])
unfolding row
folded_reference = refl

folded_reference_without_unicode : Undelegated (ascii (cat (grp (lit "a") ∷ iref 1 ∷ [])))
    (SplitUnanchored 3 1 ∷ Instr.Any ∷ Jmp 0 ∷ Save 0 ∷ SaveCaptureGroupStart 1 4 ∷ code "a" ∷ SaveCaptureGroup 1 4
    ∷ Instr.Backref 2 true false ∷ Save 1 ∷ End ∷ [])
unfolding row
folded_reference_without_unicode = refl

failing : Undelegated (explicit (alt (cat (lit "a" ∷ Control Fail ∷ []) ∷ lit "ab" ∷ [])))
    (Split 1 4 ∷ code "a" ∷ Instr.Fail ∷ Jmp 6 ∷ code "a" ∷ code "b" ∷ End ∷ [])
unfolding row
failing = refl

-- ---- where a match continues

continue_at_the_start : Undelegated (anchored ContinueFromPreviousMatchEnd) (Save 0 ∷ Instr.ContinueFromPreviousMatchEnd true ∷ Save 1 ∷ End ∷ [])
unfolding row
continue_at_the_start = refl

continue_behind_groups : Undelegated (anchored (grp (cat (grp ContinueFromPreviousMatchEnd ∷ lit "a" ∷ []))))
    (Save 0 ∷ SaveCaptureGroupStart 1 6 ∷ SaveCaptureGroupStart 2 7 ∷ Instr.ContinueFromPreviousMatchEnd true
    ∷ SaveCaptureGroup 2 7 ∷ code "a" ∷ SaveCaptureGroup 1 6 ∷ Save 1 ∷ End ∷ [])
unfolding row
continue_behind_groups = refl

continue_past_what_takes_nothing : Undelegated
    (anchored (cat (assert (StartLine false) ∷ ahead (lit "a") ∷ ContinueFromPreviousMatchEnd ∷ [])))
    (Save 0 ∷ Instr.Assert (StartLine false) ∷ Save 2 ∷ code "a" ∷ Restore 2 ∷ Instr.ContinueFromPreviousMatchEnd true
    ∷ Save 1 ∷ End ∷ [])
unfolding row
continue_past_what_takes_nothing = refl

continue_past_a_letter : Undelegated (anchored (cat (lit "a" ∷ ContinueFromPreviousMatchEnd ∷ [])))
    (Save 0 ∷ code "a" ∷ Instr.ContinueFromPreviousMatchEnd false ∷ Save 1 ∷ End ∷ [])
unfolding row
continue_past_a_letter = refl

continue_past_an_option : Undelegated (anchored (cat (rep 0 1 (lit "a") ∷ ContinueFromPreviousMatchEnd ∷ [])))
    (Save 0 ∷ Split 2 3 ∷ code "a" ∷ Instr.ContinueFromPreviousMatchEnd false ∷ Save 1 ∷ End ∷ [])
unfolding row
continue_past_an_option = refl

continue_in_a_loop : Undelegated (anchored (rep 0 1 ContinueFromPreviousMatchEnd))
    (Save 0 ∷ Split 2 3 ∷ Instr.ContinueFromPreviousMatchEnd false ∷ Save 1 ∷ End ∷ [])
unfolding row
continue_in_a_loop = refl

continue_in_an_atomic_group : Undelegated (anchored (AtomicGroup ContinueFromPreviousMatchEnd))
    (Save 0 ∷ BeginAtomic ∷ Instr.ContinueFromPreviousMatchEnd false ∷ EndAtomic ∷ Save 1 ∷ End ∷ [])
unfolding row
continue_in_an_atomic_group = refl

continue_in_a_branch : Undelegated (anchored (alt (ContinueFromPreviousMatchEnd ∷ lit "a" ∷ [])))
    (Save 0 ∷ Split 2 4 ∷ Instr.ContinueFromPreviousMatchEnd false ∷ Jmp 5 ∷ code "a" ∷ Save 1 ∷ End ∷ [])
unfolding row
continue_in_a_branch = refl

mark_goes_with_a_call : Undelegated (anchored (cat (grp ContinueFromPreviousMatchEnd ∷ lit "a" ∷ call 1 ∷ [])))
    (Save 0 ∷ SaveCaptureGroupStart 1 4 ∷ Instr.ContinueFromPreviousMatchEnd true ∷ SaveCaptureGroup 1 4 ∷ code "a"
    ∷ SaveCaptureGroupStart 1 5 ∷ Instr.ContinueFromPreviousMatchEnd true ∷ SaveCaptureGroup 1 5 ∷ Save 1 ∷ End ∷ [])
unfolding row
mark_goes_with_a_call = refl
