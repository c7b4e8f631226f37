-- Runs: how many steps and backtracks they take. Rows of a million letters, branches or backtracks are left out: they
-- take too long to compute.
use Rattle.std.specs.Prelude.{◌≡◌, true, false, [], ◌∷◌, codes, refl}
use Rattle.fancy_meaning.specs.Tree.{ContinueFromPreviousMatchEnd, Empty}
use Rattle.fancy_meaning.specs.Config.{Match, NoMatch, BacktrackLimitExceeded, StepLimitExceeded}
use Rattle.fancy_examples.proofs.Notation.{Comes, plain, anchored, taking, from, with_limits, with_backtracks, with_steps, not_empty, found, found_undelegated, lit, cat, alt, grp, rep, star, ahead, nahead, row}

-- ---- steps and backtracks, to the last one

fourteen_steps : found_undelegated (anchored (cat (lit "a" ∷ grp (alt (lit "b" ∷ lit "bc" ∷ [])) ∷ lit "d" ∷ [])))
    (codes "abcd") (with_steps 14) ≡ Match (0 ∷ 4 ∷ 1 ∷ 3 ∷ [])
unfolding row
fourteen_steps = refl

thirteen_steps : found_undelegated (anchored (cat (lit "a" ∷ grp (alt (lit "b" ∷ lit "bc" ∷ [])) ∷ lit "d" ∷ [])))
    (codes "abcd") (with_steps 13) ≡ StepLimitExceeded
unfolding row
thirteen_steps = refl

four_steps_with_a_delegate : found (anchored (cat (lit "a" ∷ grp (alt (lit "b" ∷ lit "bc" ∷ [])) ∷ lit "d" ∷ [])))
    (codes "abcd") (with_limits 0 4) ≡ Match (0 ∷ 4 ∷ 1 ∷ 3 ∷ [])
unfolding row
four_steps_with_a_delegate = refl

three_steps_with_a_delegate : found (anchored (cat (lit "a" ∷ grp (alt (lit "b" ∷ lit "bc" ∷ [])) ∷ lit "d" ∷ [])))
    (codes "abcd") (with_limits 0 3) ≡ StepLimitExceeded
unfolding row
three_steps_with_a_delegate = refl

one_backtrack : found_undelegated (anchored (cat (lit "a" ∷ grp (alt (lit "b" ∷ lit "bc" ∷ [])) ∷ lit "d" ∷ [])))
    (codes "abcd") (with_backtracks 1) ≡ Match (0 ∷ 4 ∷ 1 ∷ 3 ∷ [])
unfolding row
one_backtrack = refl

no_backtrack : found_undelegated (anchored (cat (lit "a" ∷ grp (alt (lit "b" ∷ lit "bc" ∷ [])) ∷ lit "d" ∷ [])))
    (codes "abcd") (with_backtracks 0) ≡ BacktrackLimitExceeded
unfolding row
no_backtrack = refl

backtrack_a_start : Comes (plain (lit "b")) (codes "aab") (with_backtracks 2) (Match (2 ∷ 3 ∷ []))
unfolding row
backtrack_a_start = (refl, refl)

backtrack_a_start_too_few : Comes (plain (lit "b")) (codes "aab") (with_backtracks 1) BacktrackLimitExceeded
unfolding row
backtrack_a_start_too_few = (refl, refl)

last_start_fails_back_once_more : Comes (plain (lit "b")) (codes "aa") (with_backtracks 3) NoMatch
unfolding row
last_start_fails_back_once_more = (refl, refl)

last_start_fails_back_too_few : Comes (plain (lit "b")) (codes "aa") (with_backtracks 2) BacktrackLimitExceeded
unfolding row
last_start_fails_back_too_few = (refl, refl)

three_starts_of_a_letter : Comes (plain (lit "b")) (codes "aa") (with_steps 14) NoMatch
unfolding row
three_starts_of_a_letter = (refl, refl)

three_starts_of_a_letter_too_few : Comes (plain (lit "b")) (codes "aa") (with_steps 13) StepLimitExceeded
unfolding row
three_starts_of_a_letter_too_few = (refl, refl)

bound_of_three_starts : Comes (plain (lit "b")) (codes "aa") (with_limits 3 24) NoMatch
unfolding row
bound_of_three_starts = (refl, refl)

look_ahead_from_every_start : Comes (plain (ahead (lit "b"))) (codes "aab") (with_backtracks 2) (Match (2 ∷ 2 ∷ []))
unfolding row
look_ahead_from_every_start = (refl, refl)

look_ahead_too_few : Comes (plain (ahead (lit "b"))) (codes "aab") (with_backtracks 1) BacktrackLimitExceeded
unfolding row
look_ahead_too_few = (refl, refl)

one_literal_is_one_step : found (anchored (lit "abc")) (codes "abc") (with_steps 4) ≡ Match (0 ∷ 3 ∷ [])
unfolding row
one_literal_is_one_step = refl

one_literal_too_few : found (anchored (lit "abc")) (codes "abc") (with_steps 3) ≡ StepLimitExceeded
unfolding row
one_literal_too_few = refl

three_letters_are_three_steps : found_undelegated (anchored (lit "abc")) (codes "abc") (with_steps 6) ≡ Match (0 ∷ 3 ∷ [])
unfolding row
three_letters_are_three_steps = refl

three_letters_too_few : found_undelegated (anchored (lit "abc")) (codes "abc") (with_steps 5) ≡ StepLimitExceeded
unfolding row
three_letters_too_few = refl

delegate_has_no_backtrack : found (anchored (star 0 (alt (lit "a" ∷ lit "b" ∷ [])))) (codes "ab") (with_limits 0 8) ≡ Match (0 ∷ 2 ∷ [])
unfolding row
delegate_has_no_backtrack = refl

delegate_has_four_steps : found (anchored (star 0 (alt (lit "a" ∷ lit "b" ∷ [])))) (codes "ab") (with_limits 0 4) ≡ Match (0 ∷ 2 ∷ [])
unfolding row
delegate_has_four_steps = refl

delegate_with_three_steps : found (anchored (star 0 (alt (lit "a" ∷ lit "b" ∷ [])))) (codes "ab") (with_limits 0 3) ≡ StepLimitExceeded
unfolding row
delegate_with_three_steps = refl

delegate_from_every_start : found (plain (alt (lit "b" ∷ lit "bc" ∷ []))) (codes "aab") (with_backtracks 2) ≡ Match (2 ∷ 3 ∷ [])
unfolding row
delegate_from_every_start = refl

delegate_from_every_start_too_few : found (plain (alt (lit "b" ∷ lit "bc" ∷ []))) (codes "aab") (with_backtracks 1) ≡ BacktrackLimitExceeded
unfolding row
delegate_from_every_start_too_few = refl

first_step : Comes (plain (lit "a")) (codes "a") (with_steps 0) StepLimitExceeded
unfolding row
first_step = (refl, refl)

-- ---- a match that takes something

nothing_is_not_enough : Comes (taking Empty) (codes "ab") (record not_empty { step_limit = 24 }) NoMatch
unfolding row
nothing_is_not_enough = (refl, refl)

nothing_is_not_enough_in_seventeen : Comes (taking Empty) (codes "ab") (record not_empty { step_limit = 17 }) NoMatch
unfolding row
nothing_is_not_enough_in_seventeen = (refl, refl)

nothing_is_not_enough_too_few : Comes (taking Empty) (codes "ab") (record not_empty { step_limit = 16 }) StepLimitExceeded
unfolding row
nothing_is_not_enough_too_few = (refl, refl)

-- ---- where the match before ended

gives_up_after_one_backtrack : Comes (plain (cat (ContinueFromPreviousMatchEnd ∷ lit "a" ∷ []))) (codes "bba") (with_backtracks 1) NoMatch
unfolding row
gives_up_after_one_backtrack = (refl, refl)

gives_up_too_few : Comes (plain (cat (ContinueFromPreviousMatchEnd ∷ lit "a" ∷ []))) (codes "bba") (with_backtracks 0) BacktrackLimitExceeded
unfolding row
gives_up_too_few = (refl, refl)

anchored_needs_none : Comes (plain (cat (ContinueFromPreviousMatchEnd ∷ lit "a" ∷ []))) (codes "bba")
    (record (with_backtracks 0) { anchored = true }) NoMatch
unfolding row
anchored_needs_none = (refl, refl)

not_continued : Comes (plain (cat (ContinueFromPreviousMatchEnd ∷ lit "a" ∷ []))) (codes "a") (record (from 0) { continued = false }) NoMatch
unfolding row
not_continued = (refl, refl)

-- the mark is at the start: it is answered at once
gives_up_without_continuing : Comes (plain ContinueFromPreviousMatchEnd) (codes "aaa") (record (with_backtracks 0) { continued = false }) NoMatch
unfolding row
gives_up_without_continuing = (refl, refl)

does_not_give_up_past_an_option : Comes (plain (cat (rep 0 1 (lit "a") ∷ ContinueFromPreviousMatchEnd ∷ [])))
    (codes "baa") (record (with_backtracks 4) { continued = false }) BacktrackLimitExceeded
unfolding row
does_not_give_up_past_an_option = (refl, refl)

-- ---- many ways

exponential_passes_a_limit : Comes
    (anchored (cat (star 0 (cat (alt (lit "a" ∷ lit "aa" ∷ []) ∷ nahead (lit "x") ∷ [])) ∷ lit "b" ∷ [])))
    (codes "aaaaaaaaaaaaaaaaaaaaaaaaaaaaaaaaaaaaaaaa") (with_steps 1000) StepLimitExceeded
unfolding row
exponential_passes_a_limit = (refl, refl)

exponential_in_one_delegate : found (anchored (cat (star 0 (alt (lit "a" ∷ lit "aa" ∷ [])) ∷ lit "b" ∷ [])))
    (codes "aaaaaaaa") (with_limits 0 8) ≡ NoMatch
unfolding row
exponential_in_one_delegate = refl
